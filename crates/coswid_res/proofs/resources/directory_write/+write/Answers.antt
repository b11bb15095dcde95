-- The sizes in each directory fit where those in what holds it do.
use Rattle.std.proofs.Common.{rules}
use Rattle.coswid_res.proofs.Sizes.{directories_fit}
use Rattle.coswid_res.specs.declared.resources.directory.DirEntry.{the_lemmas}
use Rattle.coswid_res.proofs.resources.directory_write.+write.Goals as goal

pub write_path-write_directories-requires : goal.write_path-write_directories-requires
write_path-write_directories-requires t c = (search (rules, the_lemmas), directories_fit c.args.path.now c.requires.fits c.in-Some.directories c.in-Some.is)
