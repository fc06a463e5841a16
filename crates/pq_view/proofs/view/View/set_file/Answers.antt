use Rattle.std.specs.Option.{option_copied}
use Rattle.std.specs.BTreeMap.{get_by_text}
use Rattle.pq_view.specs.Held.{view_of}
use Rattle.pq_view.proofs.Changes.{file_put}
use Rattle.pq_view.proofs.view.View.set_file.Goals as goal

pub returns-clause-edits : goal.returns-clause-edits
returns-clause-edits c =
    file_put (view_of c.args.self.now) (get_by_text c.put.new.texts) c.as_str.result.now c.args.path c.as_str-2.result.now (option_copied c.as_ref.result) c.args.text
    c.in_ok-edits.edits.items c.as_str.ensures.same c.as_str-2.ensures.same c.as_ref.ensures.value c.in_ok-edits.ensures.edits c.in_ok-put.ensures.put
