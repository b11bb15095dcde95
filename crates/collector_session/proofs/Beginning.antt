-- A core that has just begun its session.
use Rattle.std.proofs.Common.{◌≡◌, ◌<◌, ◌≤◌, ◌-◌, ◌^◌, ℕ, true, List, [], refl, sym, ap, subst₂, ◌∙◌, append-nil, arith}
use Rattle.std.specs.Prelude.{min}
use Rattle.wire_base.specs.Feeding.{fresh}
use Rattle.pb_batch.specs.Feeding.{Feed}
use Rattle.pb_batch.specs.Written.{written}
use Rattle.pb_batch.specs.declared.kind.BatchKind.TheVariants as kinds
use Rattle.pb_batch.proofs.Fronts.{front_none}
use Rattle.pb_machine.specs.declared.machine.Role.TheVariants.{Client}
use Rattle.pb_machine.specs.declared.machine.State.TheVariants.{Init, ServerWorking, End}
use Rattle.pb_machine.specs.Table.{Position, sent}
use Rattle.session_rules.specs.declared.config.ServeConfig.{ServeConfig}
use Rattle.session_rules.specs.Messages.{client_batch}
use Rattle.session_rules.specs.Serving.{begin}
use Rattle.collector_session.specs.declared.standing.Standing.{Standing}
use Rattle.collector_session.specs.Cores.{Begins, Core, IsCore}
use Rattle.collector_session.specs.Standing.{not_begun}

-- The machine once the first CDATA is sent.
abbrev pub opened : Position
opened = sent (record { role = Client; state = Init }) kinds.Cdata

-- The core with that machine, and what waits to be given.
abbrev pub begun : ServeConfig → Position → List ℕ → Core
begun c machine out = record {
  end = record { config = c; standing = record not_begun { machine = machine }; out = out };
  feed = record { from_server = true; feeding = fresh };
  quiet = 0;
}

module _ (c : ServeConfig) (machine : Position) (out : List ℕ) (machine-is : machine ≡ opened) where
  pub begins : out ≡ written (client_batch kinds.Cdata []) → Begins (begun c machine out)
  begins out-is chronicle =
      let none : 0 ≡ min 0 (2 ^ 64 - 1) = omega arith in
      record {
        within = tt;
        gives = ([], out-is ∙ sym (append-nil (written (client_batch kinds.Cdata []))), (refl, refl, ap (λ (m : Position). record begin { machine = m }) machine-is));
        hears = λ live. refl;
        sent = none;
        received = refl;
      }

  pub begun_core : c.max ≤ 16000000 → 0 < c.idle → 0 < c.octets → IsCore (begun c machine out)
  begun_core max idle octets = record {
    server = refl;
    torn = front_none true;
    ready = λ live. record { role = ap (λ (m : Position). m.role) machine-is; live = λ end. let both : ServerWorking ≡ End = sym (ap (λ (m : Position). m.state) machine-is) ∙ end in absurd cc; max = max };
    feeding = λ live. refl;
    room = λ live. octets;
    patient = λ live. idle;
    taken = refl;
    own = λ is. absurd cc;
  }

  -- So of a core whose parts are as they are made.
  pub new_begins : (standing : Standing) (feed : Feed) → standing ≡ not_begun → feed ≡ record { from_server = true; feeding = fresh } → out ≡ written (client_batch kinds.Cdata [])
      → Begins (record { end = record { config = c; standing = record standing { machine = machine }; out = out }; feed = feed; quiet = 0 })
  new_begins standing feed standing-is feed-is out-is =
      subst₂ (λ (s : Standing) (f : Feed). Begins (record { end = record { config = c; standing = record s { machine = machine }; out = out }; feed = f; quiet = 0 })) (sym standing-is) (sym feed-is)
      (begins out-is)

  pub new_core : (standing : Standing) (feed : Feed) → standing ≡ not_begun → feed ≡ record { from_server = true; feeding = fresh } → c.max ≤ 16000000 → 0 < c.idle → 0 < c.octets
      → IsCore (record { end = record { config = c; standing = record standing { machine = machine }; out = out }; feed = feed; quiet = 0 })
  new_core standing feed standing-is feed-is max idle octets =
      subst₂ (λ (s : Standing) (f : Feed). IsCore (record { end = record { config = c; standing = record s { machine = machine }; out = out }; feed = f; quiet = 0 })) (sym standing-is) (sym feed-is)
      (begun_core max idle octets)
