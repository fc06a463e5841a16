use Rattle.std.specs.Prelude.{codes, string_bytes}
use Rattle.pq_editor.proofs.Gathering.{three_added}
use Rattle.pq_editor.proofs.reports.push_full.Goals as goal

pub returns : goal.returns
returns c =
    three_added (string_bytes c.args.out.now) (string_bytes c.push_str.new.self) (string_bytes c.push_str-2.new.self) (string_bytes c.push_str-3.new.self) (codes "{\"items\":") c.args.list.now (codes ",\"kind\":\"full\"")
    c.in_ok-push_str.ensures.bytes c.in_ok-push_str-2.ensures.bytes c.in_ok-push_str-3.ensures.bytes
