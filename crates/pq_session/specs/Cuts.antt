-- The text after changes whose ranges are cut to the text. Ranges of the standard lie in the text
-- (LSP 3.17, "TextDocumentContentChangeEvent"), and some editors send ranges that end past it.
use Rattle.std.specs.Prelude.{◌≡◌, ◌<◌, ℕ, max, List, [], ◌∷◌, length, Option, Some, None, unwrap_or}
use Rattle.std.specs.List.{replace_range}
use Rattle.pq_lex.specs.declared.position.Position.{Position}
use Rattle.pq_lex.specs.TextChanges.{TextChangeView, offset_of, apply}
use Rattle.pq_core.specs.Changes.{BodyView, set, ranged}

-- `cut_offset text p` is the offset of the position `p` of `text`, or the end of `text` if it has no
-- line of `p`.
abbrev pub cut_offset : List ℕ → Position → ℕ
cut_offset text p = unwrap_or (offset_of text p) (length text)

-- `after_cut text c` is `text` after the change `c`, whose range is cut to `text`. If the end of the
-- range is before its start, nothing is replaced, and the new text comes at the start.
abbrev pub after_cut : List ℕ → TextChangeView → List ℕ
after_cut text c = elim c.range [
  | None ↦ c.text
  | Some r ↦ replace_range text (cut_offset text r.0) (max (cut_offset text r.0) (cut_offset text r.1)) c.text
]

-- `after_cuts text cs` is `text` after the changes `cs`, made in their order. The range of each is
-- cut to the text that the change before it left.
unfoldable pub after_cuts : List ℕ → List TextChangeView → List ℕ
after_cuts text [] = text
after_cuts text (c ∷ cs) = after_cuts (after_cut text c) cs

-- `body_after_cuts text body` is what `body` makes of `text`: the text that it sets, or `text` after
-- its changes. `None` is a file that is absent.
abbrev pub body_after_cuts : List ℕ → BodyView → Option (List ℕ)
body_after_cuts text (set new) = new
body_after_cuts text (ranged cs) = Some (after_cuts text cs)

-- `most_cut` is the most changes that are made of which one has to be cut.
abbrev pub most_cut : ℕ
most_cut = 64

-- `AreTooMany text body` is: the changes of `body` do not all fit `text`, and they are more than
-- `most_cut`.
abbrev pub AreTooMany : List ℕ → BodyView → Type 0
AreTooMany text (set new) = ⊥
AreTooMany text (ranged cs) = (apply (Some text) cs ≡ None) × (most_cut < length cs)
