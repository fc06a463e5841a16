-- Braces show one list of statements of some words.
use Rattle.std.proofs.Common.{◌≡◌, ℕ, Bool, true, false, List, [], ◌∷◌, ◌++◌, drop, Option, Some, None, refl, sym, ap, ◌∙◌, subst}
use Rattle.pq_lex.specs.aux.Reading.{Reading, tokens_of}
use Rattle.pq_lex.specs.declared.token.Token.{Token}
use Rattle.pq_syntax.specs.Loose.{IsShown, is_other, sight, shown, taken, opened, begins_after, goes_on_after, within, at_file_level, Shows}
use Rattle.pq_syntax.specs.Loose.Shows.{ends, leaves, closes, opens, passes}
use Rattle.pq_syntax.specs.Words.{Word, words}
use Rattle.pq_syntax.specs.aux.Loosely.{has_other_version, loosely, shown_from, tokens_on}
use Rattle.pq_syntax.specs.declared.loose.open.Holder.{Holder}
use Rattle.pq_syntax.specs.declared.loose.sights.Brace.{Brace}
use Rattle.pq_syntax.specs.declared.loose.sights.Sight.{Sight}
use Rattle.pq_syntax.specs.declared.tree.Node.{Node}
use Rattle.pq_syntax.proofs.LexedOn.{Each, Within, One, each_on, one_on}
use Rattle.pq_syntax.proofs.Showing.{each_shows}

-- what follows the sight `s`, by the brace that it opens and whether the body goes on
abbrev Turn : List ℕ → Holder → List Word → List Node → List Word → Sight → Option Brace → Bool → Type 0
Turn text h ws ns end s (Some b) g =
    (inner : List Node) × (left : List Word) × (outs : List Node)
    × Shows text (within h.depth b) true (drop (taken s) ws) inner left
    × Shows text h true left outs end
    × (ns ≡ shown h.depth ws s ++ (inner ++ outs))
Turn text h ws ns end s None true = (others : List Node) × Shows text h (begins_after s) (drop (taken s) ws) others end × (ns ≡ shown h.depth ws s ++ others)
Turn text h ws ns end s None false = (ns ≡ []) × (end ≡ drop (taken s) ws)

abbrev TurnOf : List ℕ → Holder → List Word → List Node → List Word → Sight → Type 0
TurnOf text h ws ns end s = Turn text h ws ns end s (opened s) (goes_on_after s)

turned : (text : List ℕ) (h : Holder) (b : Bool) (w : Word) (ws : List Word) (ns : List Node) (end : List Word)
    → Shows text h b (w ∷ ws) ns end → TurnOf text h (w ∷ ws) ns end (sight text h b (w ∷ ws))
turned text h b w ws ns end (leaves e) = subst (λ (s : Sight). TurnOf text h (w ∷ ws) [] (w ∷ ws) s) (sym e) (refl, refl)
turned text h b w ws ns end (closes e) = subst (λ (s : Sight). TurnOf text h (w ∷ ws) [] ws s) (sym e) (refl, refl)
turned text h b w ws ns end (opens s br inner outs left e o in' out n) =
    subst (λ (s : Sight). TurnOf text h (w ∷ ws) ns end s) (sym e)
    (subst (λ (o : Option Brace). Turn text h (w ∷ ws) ns end s o (goes_on_after s)) (sym o) (inner, left, outs, in', out, n))
turned text h b w ws ns end (passes s others e o g sh n) =
    subst (λ (s : Sight). TurnOf text h (w ∷ ws) ns end s) (sym e)
    (subst (λ (o : Option Brace). Turn text h (w ∷ ws) ns end s o (goes_on_after s)) (sym o)
    (subst (λ (g : Bool). Turn text h (w ∷ ws) ns end s None g) (sym g) (others, sh, n)))

ended : (text : List ℕ) (h : Holder) (b : Bool) (ns : List Node) (end : List Word) → Shows text h b [] ns end → (ns ≡ []) × (end ≡ [])
ended text h b ns end ends = (refl, refl)

pub one_shows : (text : List ℕ) (h : Holder) (b : Bool) (ws : List Word) (ns ms : List Node) (end others : List Word)
    → Shows text h b ws ns end → Shows text h b ws ms others → (ns ≡ ms) × (end ≡ others)
one_shows text h b ws ns ms end others ends d = let e = ended text h b ms others d in (sym e.0, sym e.1)
one_shows text h b ws ns ms end others (leaves {w = w} {ws = vs} e) d =
    let t = subst (λ (s : Sight). TurnOf text h (w ∷ vs) ms others s) e (turned text h b w vs ms others d) in (sym t.0, sym t.1)
one_shows text h b ws ns ms end others (closes {w = w} {ws = vs} e) d =
    let t = subst (λ (s : Sight). TurnOf text h (w ∷ vs) ms others s) e (turned text h b w vs ms others d) in (sym t.0, sym t.1)
one_shows text h b ws ns ms end others (opens {w = w} {ws = vs} s br inner outs left e o in' out n) d =
    let t' = subst (λ (s : Sight). TurnOf text h (w ∷ vs) ms others s) e (turned text h b w vs ms others d) in
    let t = subst (λ (o : Option Brace). Turn text h (w ∷ vs) ms others s o (goes_on_after s)) o t' in
    let i = one_shows text (within h.depth br) true (drop (taken s) (w ∷ vs)) inner t.0 left t.1 in' t.3 in
    let u = one_shows text h true left outs t.2 end others out (subst (λ (l : List Word). Shows text h true l t.2 others) (sym i.1) t.4) in
    (n ∙ ap (λ (x : List Node). shown h.depth (w ∷ vs) s ++ (x ++ outs)) i.0 ∙ ap (λ (x : List Node). shown h.depth (w ∷ vs) s ++ (t.0 ++ x)) u.0 ∙ sym t.5, u.1)
one_shows text h b ws ns ms end others (passes {w = w} {ws = vs} s rest e o g sh n) d =
    let t'' = subst (λ (s : Sight). TurnOf text h (w ∷ vs) ms others s) e (turned text h b w vs ms others d) in
    let t' = subst (λ (o : Option Brace). Turn text h (w ∷ vs) ms others s o (goes_on_after s)) o t'' in
    let t = subst (λ (g : Bool). Turn text h (w ∷ vs) ms others s None g) g t' in
    let i = one_shows text h (begins_after s) (drop (taken s) (w ∷ vs)) rest t.0 end others sh t.1 in
    (n ∙ ap (λ (x : List Node). shown h.depth (w ∷ vs) s ++ x) i.0 ∙ sym t.2, i.1)

pub one_list : One → (text : List ℕ) (ns ms : List Node) → IsShown text ns → IsShown text ms → ns ≡ ms
one_list one text ns ms a b =
    let same = one_on one text 0 b.tokens a.tokens b.lexes a.lexes in
    (one_shows text at_file_level true (words text a.tokens) ns ms [] [] a.shows (subst (λ (ts : List Token). Shows text at_file_level true (words text ts) ms []) same b.shows)).0

pub each_list : Each → Within → (text : List ℕ) → IsShown text (loosely text)
unfolding loosely
each_list each within text = record { tokens = tokens_on text; lexes = each_on each within text; shows = each_shows text (words text (tokens_on text)) }

pub loosely_is : (text : List ℕ) (ts : List Token) → ts ≡ tokens_on text → shown_from text (words text ts) ≡ loosely text
unfolding loosely
loosely_is text ts e = ap (λ (x : List Token). shown_from text (words text x)) e

pub other_is : (text : List ℕ) (ts : List Token) (r : Reading) → ts ≡ r.tokens → r ≡ tokens_of text → is_other (words text ts) ≡ has_other_version text
unfolding has_other_version
other_is text ts r e f = ap (λ (x : List Token). is_other (words text x)) (e ∙ ap (λ (x : Reading). x.tokens) f)
