use Rattle.std.proofs.Common.{refl}
use Rattle.swid_cli.proofs.Commanded.{runs_words, said_fit}
use Rattle.swid_cli.proofs.Running.{written_or}
use Rattle.swid_cli.proofs.Wording.{no_line}
use Rattle.swid_cli.proofs.run.run_plain.Goals as goal

pub returns-in-None-clause-usage : goal.returns-in-None-clause-usage
returns-in-None-clause-usage g c = (λ _. no_line _ c.in-None.ensures.said, λ _. refl)

pub returns-in-None-clause-usage_text : goal.returns-in-None-clause-usage_text
returns-in-None-clause-usage_text g c = λ _. written_or _ _ _ c.write_all.result c.write_all.ensures.whole c.write_all.ensures.cause.cause

pub run_command-requires : goal.run_command-requires
run_command-requires g c = record { fit = said_fit c.in-Some.command _ c.in-Some.ensures.said }

pub returns-in-Some : goal.returns-in-Some
returns-in-Some g c =
    let so = runs_words g.S.Source.left g.S.Source.faults g.K.Sink.written g.K.Sink.faults g.F.Files.contents g.F.Files.reads g.F.Files.faults
    _ _ _ _ _ _ c.run_command.result _ c.in-Some.command c.status.result c.status.ensures.status c.in-Some.ensures.said c.run_command.ensures.runs in
    record {
      usage = so.usage;
      usage_front = so.usage_front;
      usage_text = so.usage_text;
      usage_input = so.usage_input;
      printed = so.printed;
      front = so.front;
      unread = so.unread;
      reads = so.reads;
      right = so.right;
      fault = so.fault;
      no_input_fault = so.no_input_fault;
      no_output_fault = so.no_output_fault;
      no_files_fault = so.no_files_fault;
      input_count = so.input_count;
      output_count = so.output_count;
      files_count = so.files_count;
      status = so.within;
      contents = so.contents;
      files = so.files;
    }
