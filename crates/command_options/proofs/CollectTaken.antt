-- What the words give that `clap` takes for `collect`.
use Rattle.std.proofs.Common.{◌≡◌, ◌≤◌, ◌∙◌, List, Option, Some, true, refl, sym, ap, length, codes, is_some, IsSome, arith, subst}
use Rattle.std.specs.Prelude.{unwrap_or}
use Rattle.clap.specs.Faults.{entered_fault, is_simple_and_free}
use Rattle.clap.specs.Simple.{built, entered, names_of, new_rule}
use Rattle.clap.specs.Walk.{Row, Rule, Text, arg_by_id, nothing_held, walk}
use Rattle.clap.specs.Words.{first_of, matches_of}
use Rattle.command_options.specs.Arguments.{MOST_NUMBER}
use Rattle.command_options.specs.Collect.{CollectThere, CollectWithin, IsCollect, OneCollect, TakenIsCollect, collect_app}
use Rattle.command_options.specs.Given.{Takes, number, texts_of}
use Rattle.command_options.specs.declared.collect.CollectOptions.{CollectOptions}
use Rattle.command_options.proofs.RowsFit.{Each, IsFine}
use Rattle.command_options.proofs.TakenRows.{TakenRows, taken_rows}
use Rattle.command_options.proofs.Values.{HasNumber, default_text, given_text, number_is, number_there, number_within, words_within}

pub is_plain : is_simple_and_free collect_app ≡ true
is_plain = refl

abbrev rules : List Rule
rules = (built collect_app).top.rules

fine : Each (IsFine rules) rules
fine = (
  record { action = refl; missing = refl; takes = refl; known = refl; defaults = tt },
  (
    record { action = refl; missing = refl; takes = refl; known = refl; defaults = tt },
    (
      record { action = refl; missing = refl; takes = refl; known = refl; defaults = refl },
      (
        record { action = refl; missing = refl; takes = refl; known = refl; defaults = refl },
        (
          record { action = refl; missing = refl; takes = refl; known = refl; defaults = refl },
          (
            record { action = refl; missing = refl; takes = refl; known = refl; defaults = refl },
            (
              record { action = refl; missing = refl; takes = refl; known = refl; defaults = tt },
              tt,
            ),
          ),
        ),
      ),
    ),
  ),
)

taken : (words : List Text) → Takes collect_app words → TakenRows rules (matches_of collect_app words)
taken words takes =
    let stop = (walk rules (names_of (built collect_app)) nothing_held words).stopped in
    taken_rows (built collect_app).top (names_of (built collect_app)) words (is_some (entered (built collect_app) stop)) (entered_fault (built collect_app) stop) refl refl fine takes

-- What each argument has.
pub record CollectFound (table : List Row) : Type 0 where
  pub listen : Text
  pub listen_is : first_of (codes "listen") table ≡ Some listen
  pub epoch : HasNumber (codes "epoch") table MOST_NUMBER
  pub cap : HasNumber (codes "cap") table 4096
  pub workers : HasNumber (codes "workers") table 64
  pub sessions : HasNumber (codes "sessions") table MOST_NUMBER
  pub sweeps : HasNumber (codes "sweeps") table MOST_NUMBER
  pub names : length (texts_of (codes "names") table) ≤ 255

abbrev rule_at : Text → Rule
rule_at id = unwrap_or (arg_by_id rules id) (new_rule id)

collect_found : (table : List Row) → TakenRows rules table → CollectFound table
collect_found table t =
    let listen = given_text rules table t (codes "listen") (rule_at (codes "listen")) refl (omega arith) (t.given.0 refl) in
    let epoch = given_text rules table t (codes "epoch") (rule_at (codes "epoch")) refl (omega arith) (t.given.1.0 refl) in
    let cap = default_text rules table t (codes "cap") (rule_at (codes "cap")) refl (omega arith) (t.defaults.1.1.0 tt) in
    let workers = default_text rules table t (codes "workers") (rule_at (codes "workers")) refl (omega arith) (t.defaults.1.1.1.0 tt) in
    let sessions = default_text rules table t (codes "sessions") (rule_at (codes "sessions")) refl (omega arith) (t.defaults.1.1.1.1.0 tt) in
    let sweeps = default_text rules table t (codes "sweeps") (rule_at (codes "sweeps")) refl (omega arith) (t.defaults.1.1.1.1.1.0 tt) in
    record {
      listen = listen.text;
      listen_is = listen.first;
      epoch = number_there (codes "epoch") (rule_at (codes "epoch")) table MOST_NUMBER refl (omega arith) epoch;
      cap = number_there (codes "cap") (rule_at (codes "cap")) table 4096 refl (omega arith) cap;
      workers = number_there (codes "workers") (rule_at (codes "workers")) table 64 refl (omega arith) workers;
      sessions = number_there (codes "sessions") (rule_at (codes "sessions")) table MOST_NUMBER refl (omega arith) sessions;
      sweeps = number_there (codes "sweeps") (rule_at (codes "sweeps")) table MOST_NUMBER refl (omega arith) sweeps;
      names = words_within rules (codes "names") (rule_at (codes "names")) table t.fits refl;
    }

pub text_is_there : {A : Type 0} (o : Option A) (x : A) → o ≡ Some x → IsSome o
text_is_there o x e = rw e refl

pub all_found : (words : List Text) → Takes collect_app words → CollectFound (matches_of collect_app words)
all_found words takes = collect_found (matches_of collect_app words) (taken words takes)

pub collect_there : (words : List Text) → Takes collect_app words → CollectThere (matches_of collect_app words)
collect_there words takes =
    let f = all_found words takes in
    record {
      listen = text_is_there _ _ f.listen_is;
      epoch = f.epoch.here;
      cap = f.cap.here;
      workers = f.workers.here;
      sessions = f.sessions.here;
      sweeps = f.sweeps.here;
    }

pub collect_says : TakenIsCollect
collect_says words takes =
    let f = all_found words takes in (
      record {
        listen = f.listen;
        epoch = number f.epoch.here.text;
        cap = number f.cap.here.text;
        workers = number f.workers.here.text;
        sessions = number f.sessions.here.text;
        sweeps = number f.sweeps.here.text;
        names = texts_of (codes "names") (matches_of collect_app words);
      },
      (
        takes,
        record {
          listen = f.listen_is;
          epoch = number_is (codes "epoch") _ f.epoch.here;
          cap = number_is (codes "cap") _ f.cap.here;
          workers = number_is (codes "workers") _ f.workers.here;
          sessions = number_is (codes "sessions") _ f.sessions.here;
          sweeps = number_is (codes "sweeps") _ f.sweeps.here;
          names = refl;
        },
      ),
    )

pub collect_within : (words : List Text) (options : CollectOptions) → IsCollect words options → CollectWithin options
collect_within words options is =
    let f = all_found words is.0 in
    let table = matches_of collect_app words in
    let epoch = number_within (codes "epoch") table MOST_NUMBER options.epoch f.epoch is.1.epoch in
    let cap = number_within (codes "cap") table 4096 options.cap f.cap is.1.cap in
    let workers = number_within (codes "workers") table 64 options.workers f.workers is.1.workers in
    let sessions = number_within (codes "sessions") table MOST_NUMBER options.sessions f.sessions is.1.sessions in
    let sweeps = number_within (codes "sweeps") table MOST_NUMBER options.sweeps f.sweeps is.1.sweeps in
    record {
      epoch = epoch.0;
      cap = cap.0;
      most_cap = cap.1;
      workers = workers.0;
      most_workers = workers.1;
      sessions = sessions.0;
      sweeps = sweeps.0;
      names = subst (λ (xs : List Text). length xs ≤ 255) is.1.names f.names;
    }

pub same : {A : Type 0} (x y : A) → Some x ≡ Some y → x ≡ y
same x y e = ap (λ o. unwrap_or o x) e

pub one_collect : OneCollect
one_collect words one other is so = λ i. record {
  listen = same one.listen other.listen (sym is.1.listen ∙ so.1.listen) i;
  epoch = same one.epoch other.epoch (sym is.1.epoch ∙ so.1.epoch) i;
  cap = same one.cap other.cap (sym is.1.cap ∙ so.1.cap) i;
  workers = same one.workers other.workers (sym is.1.workers ∙ so.1.workers) i;
  sessions = same one.sessions other.sessions (sym is.1.sessions ∙ so.1.sessions) i;
  sweeps = same one.sweeps other.sweeps (sym is.1.sweeps ∙ so.1.sweeps) i;
  names = (sym is.1.names ∙ so.1.names) i;
}
