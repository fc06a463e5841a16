-- Frames, one after another.
use Rattle.std.proofs.Common.{◌≡◌, ℕ, ◌-◌, ◌<◌, ◌≤◌, List, [], ◌∷◌, ◌++◌, Option, Some, None, Ok, length, take, drop, refl, sym, ◌∙◌, ap, subst, inr, arith, append_assoc}
use Rattle.std.specs.Prelude.{is_some}
use Rattle.std.proofs.Common.{false}
use Rattle.std.proofs.lemmas.List.{append-nil, take-append-drop, length-append, length-take-le}
use Rattle.pq_frame.specs.Header.{IsHeader, body_length}
use Rattle.pq_frame.specs.Frames.{IsFrame, IsRest, Frames, State, Reading, Feeds}
use Rattle.pq_frame.specs.aux.Reader.{state_of, IsKept}
use Rattle.pq_frame.specs.declared.fault.FrameFault.{FrameFault}
use Rattle.pq_frame.proofs.HeaderLemmas.{header_not_empty, header_has_two}

pub split_twice : (bytes header after body others : List ℕ) (end needed : ℕ) → header ≡ take end bytes → after ≡ drop end bytes → body ≡ take needed after → others ≡ drop needed after → needed ≤ length after → IsHeader header → body_length header ≡ Ok needed → (frame : List ℕ) × IsFrame frame body × (bytes ≡ frame ++ others) × (length others < length bytes)
split_twice bytes header after body others end needed at_end past_end at_needed past_needed fits is gives =
    let whole : bytes ≡ header ++ (body ++ others) = rw (at_needed, past_needed, take-append-drop needed after, past_end, at_end) (sym (take-append-drop end bytes)) in
    let len : needed ≡ length body = rw at_needed (sym (length-take-le needed after fits)) in (
      header ++ body,
      (header, is, gives ∙ ap (λ (n : ℕ). Ok n) len, refl),
      whole ∙ sym (append_assoc header body others),
      omega (arith, header_not_empty header is, ap (length {A = ℕ}) whole, length-append header (body ++ others), length-append body others),
    )

-- the loop over the frames ends at the rest, which is the state of the new reader
pub frames_end : (bytes rest : List ℕ) (bodies : List (List ℕ)) (kept new : State) → ((others : List (List ℕ)) (end : State) → Frames rest others end → Frames bytes (bodies ++ others) end) → new ≡ kept → IsRest rest kept → Frames bytes bodies new
frames_end bytes rest bodies kept new goes_on same h =
    subst (λ (state : State). Frames bytes bodies state) (sym same) (subst (λ (all : List (List ℕ)). Frames bytes all kept) (append-nil bodies) (goes_on [] kept h))

pub rest_cut_body : (rest header body : List ℕ) (needed : ℕ) → IsHeader header × (body_length header ≡ Ok needed) × (length body < needed) × (rest ≡ header ++ body) → IsRest rest (Reading (header ++ body))
rest_cut_body rest header body needed h =
    (h.3, inr (record { header = header; body = body; needed = needed; is_header = h.0; gives = h.1; is_cut = h.2; whole = refl }))

pub feed_body : (header body piece : List ℕ) (missing needed : ℕ) (answered : List (List ℕ)) (new : State) → IsHeader header × (body_length header ≡ Ok needed) × (length body < needed) → missing ≡ needed - length body → missing ≤ length piece → (bodies : List (List ℕ)) × (answered ≡ (body ++ take missing piece) ∷ bodies) × Frames (drop missing piece) bodies new → Feeds (Reading (header ++ body)) piece (Ok answered) new
feed_body header body piece missing needed answered new kept is_missing fits (bodies, same, rest) =
    let whole : header ++ body ++ piece ≡ header ++ (body ++ take missing piece) ++ drop missing piece = rw (append_assoc header body piece, append_assoc header (body ++ take missing piece) (drop missing piece), append_assoc body (take missing piece) (drop missing piece), take-append-drop missing piece) refl in
    let len : needed ≡ length (body ++ take missing piece) = omega (arith, length-append body (take missing piece), length-take-le missing piece fits) in
    rw same ((header ++ (body ++ take missing piece), drop missing piece, (header, kept.0, kept.1 ∙ ap (λ (n : ℕ). Ok n) len, refl), whole, rest), λ fault h. omega arith)

reading_injective : (a b : List ℕ) → Reading a ≡ Reading b → a ≡ b
reading_injective a b e = cc

append_nil_left : (a b : List ℕ) → a ++ b ≡ [] → a ≡ []
append_nil_left [] b e = refl
append_nil_left (x ∷ a) b e = absurd (cc e)

pub at_start : (fault : Option FrameFault) (needed : Option ℕ) (header body : List ℕ) (state : State) → IsKept fault needed header body → state_of fault (header ++ body) ≡ state → fault ≡ None → (header ≡ [] → state ≡ Reading []) × (state ≡ Reading [] → header ≡ [])
at_start (Some fault) needed header body state kept view none = cc
at_start None None header body state kept view none =
    (λ e. sym view ∙ ap Reading (rw (e, kept.0) refl), λ e. append_nil_left header body (reading_injective (header ++ body) [] (view ∙ e)))
at_start None (Some needed) header body state kept view none =
    (λ e. absurd (header_has_two header kept.0 (ap length e)), λ e. append_nil_left header body (reading_injective (header ++ body) [] (view ∙ e)))

some_injective : (a b : ℕ) → Some a ≡ Some b → a ≡ b
some_injective a b e = cc

pub feed_kept : (fault : Option FrameFault) (o : Option ℕ) (header body piece : List ℕ) (missing needed : ℕ) (answered : List (List ℕ)) (new : State) → IsKept fault o header body → fault ≡ None → o ≡ Some needed → missing ≡ needed - length body → missing ≤ length piece → (bodies : List (List ℕ)) × (answered ≡ (body ++ take missing piece) ∷ bodies) × Frames (drop missing piece) bodies new → Feeds (state_of fault (header ++ body)) piece (Ok answered) new
feed_kept (Some fault) o header body piece missing needed answered new kept none some is_missing fits h = cc
feed_kept None None header body piece missing needed answered new kept none some is_missing fits h = cc
feed_kept None (Some n) header body piece missing needed answered new kept none some is_missing fits h =
    let same : n ≡ needed = some_injective n needed some in
    feed_body header body piece missing needed answered new (kept.0, kept.1 ∙ ap (λ (k : ℕ). Ok k) same, omega (arith, kept.2)) is_missing fits h

pub no_fault : (fault : Option FrameFault) → is_some fault ≡ false → fault ≡ None
no_fault None h = refl
no_fault (Some fault) h = cc

pub not_some : (fault : Option FrameFault) → ((f : FrameFault) → fault ≡ Some f → ⊥) → fault ≡ None
not_some None h = refl
not_some (Some fault) h = absurd (h fault refl)
