use Rattle.std.proofs.Common.{sym, subst, Bool}
use Rattle.std.specs.Prelude.{◌↔◌, IsTrue}
use Rattle.wire_base.specs.Stamp.{IsStamp}
use Rattle.wire_base.proofs.StampLaws.{stamp_test_is_form, test_is}
use Rattle.wire_base.proofs.values.stamp.is_stamp.Goals as goal

pub returns-clause-test : goal.returns-clause-test
returns-clause-test c = test_is c.args.text.now c.text.result c.from_text-moment.result c.is_real.result c.eq.result c.eq-2.result c.from_text-moment.ensures.moment c.is_real.ensures.real c.text.ensures.text c.eq.ensures c.eq-2.ensures

pub returns-clause-stamp : goal.returns-clause-stamp
returns-clause-stamp c = subst (λ (b : Bool). IsTrue b ↔ IsStamp c.args.text.now) (sym (returns-clause-test c)) (stamp_test_is_form c.args.text.now)
