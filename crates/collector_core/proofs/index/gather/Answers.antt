use Rattle.std.proofs.Common.{rules, ◌≡◌, ◌∙◌, ℕ, ◌+◌, ◌*◌, ◌%◌, ◌^◌, ◌∷◌, ◌||◌, true, Bool, List, ap, subst}
use Rattle.std.specs.BTreeSet.{contains, keys_between}
use Rattle.std.specs.List.{list_any}
use Rattle.std.specs.Map.Iter.{deref}
use Rattle.std.specs.Ordering.{is_eq, nat_cmp}
use Rattle.std.specs.declared.ops.Bound.TheVariants.{Included}
use Rattle.std.proofs.lemmas.Map.Iter.{rest_more}
use Rattle.collector_core.specs.Index.{PutsKey}
use Rattle.collector_core.proofs.Gathered.{gathered_first, gathered_more, put_is, put_kept}
use Rattle.collector_core.proofs.index.gather.Goals as goal

pub loop-key-init : goal.loop-key-init
loop-key-init c =
    let all : c.into_iter-key-iterator.result ≡ keys_between nat_cmp (Included (c.args.sum * 2 ^ 32)) (Included (c.args.sum * 2 ^ 32 + 4294967295)) c.args.index.now =
    c.into_iter-key-iterator.ensures.into_iter_gives
    ∙ c.range-key-items.ensures.between (search rules)
    ∙ ap (λ (n : ℕ). keys_between nat_cmp (Included n) (Included c.new.result.end) c.args.index.now) c.new.ensures.start
    ∙ ap (λ (n : ℕ). keys_between nat_cmp (Included (c.args.sum * 2 ^ 32)) (Included n) c.args.index.now) c.new.ensures.end in
    record {
      kept = λ id is. is;
      gathered = λ id lt is.
          ap (λ (b : Bool). b || contains nat_cmp c.args.ids.now id)
          (ap (list_any (λ (key : ℕ). is_eq (nat_cmp (c.args.sum * 2 ^ 32 + id) key))) all ∙ gathered_first c.args.sum id c.args.index.now lt is);
    }

pub loop-key-preserved : goal.loop-key-preserved
loop-key-preserved c =
    let puts : PutsKey (c.in-Some.key.now % 2 ^ 32) c.loop-key.ids c.insert.new.self = put_is _ _ _ c.in_ok-insert.ensures.updates in
    let rest : c.loop-key.key-iterator ≡ c.in-Some.key.now ∷ c.next.new.self = rest_more deref _ _ _ c.in-Some.key c.in-Some.is c.next.ensures.steps in
    record {
      kept = λ id is. put_kept (c.in-Some.key.now % 2 ^ 32) id c.loop-key.ids c.insert.new.self puts (c.loop-key.invariant.kept id is);
      gathered = λ id lt is.
          gathered_more c.args.sum id c.in-Some.key.now c.next.new.self c.loop-key.ids c.insert.new.self lt puts
          (subst (λ (l : List ℕ). (list_any (λ (key : ℕ). is_eq (nat_cmp (c.args.sum * 2 ^ 32 + id) key)) l || contains nat_cmp c.loop-key.ids id) ≡ true) rest (c.loop-key.invariant.gathered id lt is));
    }
