use Rattle.std.proofs.Common.{◌≡◌, ◌++◌, List, ℕ, sym, ap, ◌∙◌}
use Rattle.std.specs.Prelude.{string_bytes}
use Rattle.std.proofs.lemmas.List.{drop_all}
use Rattle.std.proofs.lemmas.Result.{IfOk-weaker}
use Rattle.pq_checks.specs.Faults.{arrowed, ring_text}
use Rattle.pq_checks.specs.aux.Imports.{first_name}
use Rattle.pq_checks.proofs.Importing.{arrow_more, ring_said}
use Rattle.pq_checks.proofs.around.import_lines.ring_text.Goals as goal

pub files-preserved : goal.files-preserved
files-preserved c = λ last.
    arrow_more last _ _ _ _ c.args.ring.now c.files.file-index c.file-item.result c.files-test.true c.file-item.is
    (c.in_ok-push_str.ensures.bytes ∙ ap (λ n. string_bytes c.files.text ++ n) c.as_str.ensures.same) c.in_ok-push_str-2.ensures.bytes (c.files.invariant last)

pub returns : goal.returns
returns c =
    let ring = c.args.ring.now in
    let first = first_name ring in
    let whole : string_bytes c.files.text ++ first ≡ ring_text ring =
    sym (ap (λ (fs : List (List ℕ)). string_bytes c.files.text ++ arrowed fs first) (drop_all c.files.file-index ring c.files-test.false))
    ∙ c.files.invariant first ∙ sym (ring_said ring) in
    record { text = IfOk-weaker c.from_string.result _ _ (λ _ h. h ∙ c.in_ok-push_first.ensures.first ∙ whole) c.from_string.ensures.same }
