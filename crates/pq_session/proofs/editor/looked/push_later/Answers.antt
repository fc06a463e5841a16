use Rattle.std.proofs.Common.{ℕ, List, ◌++◌, refl, ap, ◌∙◌}
use Rattle.std.specs.Prelude.{codes, string_bytes}
use Rattle.pq_session.specs.Editor.{later_folders}
use Rattle.pq_session.proofs.GatherLemmas.{gathered_more}
use Rattle.pq_session.proofs.editor.looked.push_later.Goals as goal

pub folders-preserved : goal.folders-preserved
folders-preserved c =
    let each = λ (folder : List ℕ). codes ", " ++ folder in
    let before = string_bytes c.folders.out in
    gathered_more each later_folders (λ (x : List ℕ) (xs : List (List ℕ)). refl) before (string_bytes c.push_next.new.out) (string_bytes c.args.out.now ++ later_folders c.args.folders.now)
    c.args.folders.now c.folders.folder-index c.folder-item.result
    c.folders-test.true (c.in_ok-push_next.ensures ∙ ap (λ (x : List ℕ). before ++ each x) (c.as_str.ensures.same ∙ c.folder-item.is)) c.folders.invariant
