use Rattle.std.specs.Str.{is_utf8}
use Rattle.pq_links.specs.Files.{is_public}
use Rattle.pq_links.proofs.ImportSteps.{import_none}
use Rattle.pq_links.proofs.import_list.import_named.Goals as goal

pub returns-in-None : goal.returns-in-None
returns-in-None c = record {
  import = import_none (is_utf8 c.args.file.now) c.args.file.now (is_public c.args.kind) (cc (c.in-None.ensures.text, c.in-None.is));
}
