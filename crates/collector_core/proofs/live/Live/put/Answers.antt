use Rattle.std.proofs.Common.{rules, ◌≡◌, ◌∙◌, ℕ, Option, Some, ap, sym, subst}
use Rattle.std.specs.Option.{option_copied}
use denote.Ref.{Bor}
use Rattle.swima_model.specs.declared.record.Record.{Record}
use Rattle.swima_model.specs.Live.{record_of}
use Rattle.collector_core.specs.Index.{ExchangesKey, key_of}
use Rattle.collector_core.specs.Places.{LiveView, Puts, standing}
use Rattle.collector_core.proofs.Keyed.{put_index}
use Rattle.collector_core.proofs.Slots.{put_few}
use Rattle.collector_core.proofs.live.Live.put.Goals as goal

found_is : (found : Option Record) (got : Option (Bor Record)) (held : Bor Record) → option_copied got ≡ found → got ≡ Some held → found ≡ Some held.now
found_is found got held is some = sym is ∙ ap option_copied some

pub invariant_of-self-2 : goal.invariant_of-self-2
invariant_of-self-2 c =
    let both = c.put_content.ensures.put c.self.inside.next c.self.inside.empty c.self.invariant.0 in
    let found : record_of c.args.id (standing c.self.inside.places.entries) ≡ Some c.unwrap-held.result.now =
    ap (λ (live : LiveView). record_of c.args.id live.records) c.self.view_is ∙ found_is _ c.get.result c.unwrap-held.result c.get.ensures.held c.unwrap-held.ensures in
    let exchanges = subst (λ (from : ℕ). ExchangesKey from (key_of c.args.content.ident c.args.id) c.self.inside.index c.exchange_key.new.index) c.key_of-from.ensures.key
    (subst (λ (to : ℕ). ExchangesKey c.key_of-from.result to c.self.inside.index c.exchange_key.new.index) c.key_of-to.ensures.key c.in_ok-exchange_key.ensures.exchanged) in (
      both.0,
      put_index c.self.inside.next c.self.inside.empty c.self.inside.places.entries c.self.invariant.0 (search rules) c.self.inside.index c.exchange_key.new.index c.self.invariant.1 c.args.id _ c.args.content
          c.unwrap-held.result.now found both.1 exchanges,
      put_few c.self.inside.next c.self.inside.empty c.args.id c.args.content c.self.inside.places.entries c.put_content.new.places.entries c.self.invariant.0 both.0 both.1 c.self.invariant.2,
    )

pub returns-clause-put : goal.returns-clause-put
returns-clause-put c =
    subst (λ (live : LiveView). Puts c.args.id c.args.content live.records (standing c.put_content.new.places.entries)) c.self.view_is
    (c.put_content.ensures.put c.self.inside.next c.self.inside.empty c.self.invariant.0).1
