-- What a collector drafts.
use Rattle.std.specs.Prelude.{List}
use Rattle.pb_batch.specs.declared.batch.Message.{Message}
use Rattle.session_talk.specs.Talk.{and_then, each}
use Rattle.session_rules.specs.declared.config.ServeConfig.{ServeConfig}
use Rattle.session_rules.specs.Answering.{Drafting, answers_message, renews}
use Rattle.session_rules.specs.Serving.{Draft}

-- The talk of the whole batch, from the draft before the first answer.
abbrev pub drafting : ServeConfig → Draft → List Message → Drafting
drafting c draft messages = and_then (each answers_message draft messages) (λ (d : Draft). renews c d)
