use Rattle.std.proofs.Common.{◌≡◌, ◌++◌, ℕ, List, Bool, rules, length, take, drop, sym, ap, subst, ◌∙◌, arith}
use Rattle.std.proofs.lemmas.Result.{IfOk-weaker}
use Rattle.std.proofs.Math.Seq.{take-append_seam}
use Rattle.pq_schema.specs.aux.Spots.{FilesMarked, LeavesNone}
use Rattle.pq_schema.proofs.Marks.{leaves_full, leaves_marked}
use Rattle.pq_schema.proofs.search.spots.marks_of.Goals as goal

pub returns-then-has_few_dots : goal.returns-then-has_few_dots
returns-then-has_few_dots c =
    record {
      leaves = IfOk-weaker c.vec.result _ _
          (λ v is. leaves_full v.items c.args.root.now c.args.files.now (is (λ y same. search rules))) c.vec.ensures.items_if_clones_equal;
    }

pub returns : goal.returns
returns c =
    let new = c.mark_files.new.marks in
    let items = c.in_ok-marks.marks.items in
    let count : c.in_ok-marks.marks.len ≡ length new = omega arith in
    let is : take c.in_ok-marks.marks.len (new ++ drop (length new) items) ≡ new =
    ap (λ (n : ℕ). take n (new ++ drop (length new) items)) count ∙ take-append_seam new (drop (length new) items) in
    record {
      leaves = subst (λ (m : List Bool). LeavesNone m c.args.root.now c.args.files.now) (sym is)
          (leaves_marked new c.args.root.now c.args.files.now
          (subst (λ (r : List ℕ). FilesMarked new r c.args.files.now) c.as_bytes.ensures.value c.mark_files.ensures.marked));
    }
