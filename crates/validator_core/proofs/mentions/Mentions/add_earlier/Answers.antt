-- The last mention of a record counts, and those before it do not.
use Rattle.std.proofs.Common.{◌∙◌, refl, sym}
use Rattle.std.specs.BTreeSet.{contains}
use Rattle.std.specs.Ordering.{nat_cmp}
use Rattle.std.proofs.lemmas.Bool.{not-false, not-true}
use Rattle.validator_core.proofs.Dropping.{deletes}
use Rattle.validator_core.proofs.Mentioning.{again, deleted, given}
use Rattle.validator_core.proofs.mentions.Mentions.add_earlier.Goals as goal

pub returns-then-not-is_last : goal.returns-then-not-is_last
returns-then-not-is_last c =
    let old = c.args.self.now in
    let there = not-false (contains nat_cmp old.ids c.args.event.subject.id) (sym c.in_ok-is_last.ensures.added ∙ c.if-not-is_last.true) in
    record { added = λ later are. again c.args.event later old c.insert.new.self are c.in_ok-is_last.ensures.updates.0 _ there refl refl refl }

pub returns-in_ok-insert : goal.returns-in_ok-insert
returns-in_ok-insert c =
    let old = c.args.self.now in
    let new = not-true (contains nat_cmp old.ids c.args.event.subject.id) (sym c.in_ok-is_last.ensures.added ∙ c.if-not-is_last.false) in
    record {
      added = λ later are.
          deleted c.args.event later old c.insert.new.self are c.in_ok-is_last.ensures.updates.0 _ new (deletes c.args.event.action _ c.if-eq.ensures) refl
          c.in_ok-insert.ensures.updates.0 refl;
    }

pub returns-in_ok-push : goal.returns-in_ok-push
returns-in_ok-push c =
    let old = c.args.self.now in
    let new = not-true (contains nat_cmp old.ids c.args.event.subject.id) (sym c.in_ok-is_last.ensures.added ∙ c.if-not-is_last.false) in
    record {
      added = λ later are.
          given c.args.event later old c.insert.new.self are c.in_ok-is_last.ensures.updates.0 _ new (deletes c.args.event.action _ c.if-eq.ensures) refl refl
          c.in_ok-push.ensures.items;
    }
