-- A text is read as the tree or the error that the grammar gives it, and as nothing else.
use Rattle.std.proofs.Common.{◌≡◌, ◌↔◌, ℕ, Bool, List, refl, ap, subst, ◌∙◌}
use Rattle.pq_lex.specs.aux.LineMarks.{LineMark, lines_of}
use Rattle.pq_lex.specs.declared.token.Span.{Span}
use Rattle.pq_syntax.specs.FaultPlace.{FaultStands, IfFaulty, IfTree, IsTree}
use Rattle.pq_syntax.specs.aux.Parsed.{parsed}
use Rattle.pq_syntax.specs.declared.fault.Code.{Code}
use Rattle.pq_syntax.specs.declared.fault.Parsed.{Parsed}
use Rattle.pq_syntax.specs.declared.fault.Parsed.TheVariants.{Tree, Fault}
use Rattle.pq_syntax.specs.declared.tree.Node.{Node}
use Rattle.pq_links.specs.Files.{nothing_shown, braces_of, shown_of}
use Rattle.pq_links.specs.declared.files.ParsedFile.{ParsedFile}
use Rattle.pq_links.specs.declared.files.ParsedFile.TheVariants.{Absent, Present}
use Rattle.pq_links.specs.declared.files.Shown.{Shown}

-- `outcome_of p file` is the outcome of a file that is present, and `p` of an absent one
abbrev outcome_of : Parsed → ParsedFile → Parsed
outcome_of p Absent = p
outcome_of p (Present q shown lines) = q

-- files that are read as the same have the same outcome
one_outcome : (p q : Parsed) (shown other : Shown) (lines : List LineMark) → Present p shown lines ≡ Present q other lines → p ≡ q
one_outcome p q shown other lines e = ap (outcome_of p) e

module _ (loose : Bool) (text : List ℕ) (stands : IfTree (IsTree text) (parsed text) × IfFaulty (FaultStands text) (parsed text))
    (one_tree : (nodes others : List Node) → IsTree text nodes → IsTree text others → nodes ≡ others)
    (one_fault : (span other : Span) (code another : Code) → FaultStands text span code → FaultStands text other another → (span ≡ other) × (code ≡ another))
    (no_fault : (nodes : List Node) (span : Span) (code : Code) → IsTree text nodes → FaultStands text span code → ⊥) where
  tree_of : (nodes : List Node) (p : Parsed) → IfTree (IsTree text) p → IfFaulty (FaultStands text) p → IsTree text nodes → p ≡ Tree nodes
  tree_of nodes (Tree others) tree fault is = ap (λ (ns : List Node). Tree ns) (one_tree others nodes tree is)
  tree_of nodes (Fault span code) tree fault is = absurd (no_fault nodes span code is fault)

  fault_of : (span : Span) (code : Code) (p : Parsed) → IfTree (IsTree text) p → IfFaulty (FaultStands text) p → FaultStands text span code → p ≡ Fault span code
  fault_of span code (Tree nodes) tree fault is = absurd (no_fault nodes span code tree is)
  fault_of span code (Fault other another) tree fault is =
      let one = one_fault other span another code fault is in
      ap (λ (s : Span). Fault s another) one.0 ∙ ap (λ (c : Code). Fault span c) one.1

  -- what the text is read as, where `p` is its tree or error
  abbrev read_as : Parsed → ParsedFile
  read_as p = Present p (shown_of loose text p) (lines_of text)

  pub reads_tree : (nodes : List Node) → (read_as (parsed text) ≡ Present (Tree nodes) nothing_shown (lines_of text)) ↔ IsTree text nodes
  reads_tree nodes = (
    λ e. subst (IfTree (IsTree text)) (one_outcome (parsed text) (Tree nodes) (shown_of loose text (parsed text)) nothing_shown (lines_of text) e) stands.0,
    λ is. ap read_as (tree_of nodes (parsed text) stands.0 stands.1 is),
  )

  pub reads_fault : (span : Span) (code : Code) → (read_as (parsed text) ≡ Present (Fault span code) (braces_of loose text) (lines_of text)) ↔ FaultStands text span code
  reads_fault span code = (
    λ e. subst (IfFaulty (FaultStands text)) (one_outcome (parsed text) (Fault span code) (shown_of loose text (parsed text)) (braces_of loose text) (lines_of text) e) stands.1,
    λ is. ap read_as (fault_of span code (parsed text) stands.0 stands.1 is),
  )
