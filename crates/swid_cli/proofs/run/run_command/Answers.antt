use Rattle.std.proofs.Common.{refl}
use Rattle.swid_cli.specs.declared.command.Command.TheVariants as command
use Rattle.swid_cli.proofs.Commanded.{ran_same}
use Rattle.swid_cli.proofs.run.run_command.Goals as goal

pub make-requires : goal.make-requires
make-requires g c = record { count = rw c.in-Make.is at c.requires.fit }

pub returns-in-Mirror : goal.returns-in-Mirror
returns-in-Mirror g c = record { runs = ran_same g.S.Source.left g.S.Source.faults g.K.Sink.written g.K.Sink.faults g.F.Files.contents g.F.Files.reads g.F.Files.faults _ _ _ _ _ _ c.mirror.result _ (command.Mirror c.in-Mirror.kind) c.in-Mirror.is (c.mirror.ensures.printed, c.mirror.ensures.causes, refl) }

pub returns-in-Tag : goal.returns-in-Tag
returns-in-Tag g c = record { runs = ran_same g.S.Source.left g.S.Source.faults g.K.Sink.written g.K.Sink.faults g.F.Files.contents g.F.Files.reads g.F.Files.faults _ _ _ _ _ _ c.tag.result _ (command.Tag c.in-Tag.scope) c.in-Tag.is (c.tag.ensures.printed, c.tag.ensures.causes, c.tag.ensures.contents, c.tag.ensures.files, c.tag.ensures.reads) }

pub returns-in-Links : goal.returns-in-Links
returns-in-Links g c = record { runs = ran_same g.S.Source.left g.S.Source.faults g.K.Sink.written g.K.Sink.faults g.F.Files.contents g.F.Files.reads g.F.Files.faults _ _ _ _ _ _ c.links.result _ command.Links c.in-Links.is (c.links.ensures.printed, c.links.ensures.causes, refl) }

pub returns-in-Replay : goal.returns-in-Replay
returns-in-Replay g c = record { runs = ran_same g.S.Source.left g.S.Source.faults g.K.Sink.written g.K.Sink.faults g.F.Files.contents g.F.Files.reads g.F.Files.faults _ _ _ _ _ _ c.replay.result _ command.Replay c.in-Replay.is (c.replay.ensures.printed, c.replay.ensures.causes, refl) }

pub returns-in-Make : goal.returns-in-Make
returns-in-Make g c = record { runs = ran_same g.S.Source.left g.S.Source.faults g.K.Sink.written g.K.Sink.faults g.F.Files.contents g.F.Files.reads g.F.Files.faults _ _ _ _ _ _ c.make.result _ (command.Make c.in-Make.count) c.in-Make.is (c.make.ensures.printed, c.make.ensures.cause, refl, refl) }
