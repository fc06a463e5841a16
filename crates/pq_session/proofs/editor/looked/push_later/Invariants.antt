use Rattle.std.proofs.Common.{◌≡◌, ◌++◌, drop}
use Rattle.std.specs.Prelude.{string_bytes}
use Rattle.pq_session.specs.Editor.{later_folders}
use Rattle.pq_session.proofs.editor.looked.push_later.Given as goal

-- what is left completes the text
abbrev pub invariant-folders : goal.invariant-folders
invariant-folders l = string_bytes l.out ++ later_folders (drop l.folder-index l.folders) ≡ string_bytes l.fn.out ++ later_folders l.folders
