-- What braces show of some words: each list of words has such a list of statements.
use Rattle.std.proofs.Common.{◌≡◌, ℕ, zero, suc, ◌-◌, ◌<◌, ◌≤◌, Bool, true, false, ◌||◌, cond, List, [], ◌∷◌, ◌++◌, length, drop, Option, Some, None, refl, sym, ap, ◌∙◌, subst, arith, append_assoc, length-drop}
use Rattle.std.proofs.lemmas.Bool.{both_ways}
use Rattle.std.proofs.lemmas.List.{append-nil, drop_all, length-map}
use Rattle.pq_lex.specs.declared.token.Token.{Token}
use Rattle.pq_syntax.specs.Loose.{is_at, is_anew, can_begin, is_inside, sight, shown, taken, opened, begins_after, goes_on_after, within, at_file_level, Shows}
use Rattle.pq_syntax.specs.Loose.Shows.{ends, leaves, closes, opens, passes}
use Rattle.pq_syntax.specs.Words.{Word, word, words}
use Rattle.pq_syntax.specs.aux.Loosely.{innermost, outer, is_closing, turned, still_open, next_sight, deepens, shown_with, shown_from}
use Rattle.pq_syntax.specs.declared.loose.open.Holder.{Holder}
use Rattle.pq_syntax.specs.declared.loose.sights.Brace.{Brace}
use Rattle.pq_syntax.specs.declared.loose.sights.Brace.TheVariants as brace
use Rattle.pq_syntax.specs.declared.loose.sights.Sight.{Sight}
use Rattle.pq_syntax.specs.declared.loose.sights.Sight.TheVariants.{Leaves, Closes, Package, Import, Message, Enum, Service, Block, Group, Opens, Passes}
use Rattle.pq_syntax.specs.declared.tree.Node.{Node}
use Rattle.pq_syntax.proofs.Seen.{Seen, seen, takes_some, is_shallow}
use Rattle.pq_syntax.proofs.Seen.Seen.{left, closed, good}

-- the holders are of braces
abbrev AreInside : List Holder → Type 0
AreInside [] = Unit {0}
AreInside (h ∷ hs) = (is_inside h ≡ true) × AreInside hs

inside_within : (depth : ℕ) (b : Brace) → is_inside (within depth b) ≡ true
inside_within depth brace.Message = refl
inside_within depth brace.Enum = refl
inside_within depth brace.Service = refl
inside_within depth brace.Block = refl
inside_within depth brace.Other = refl

inside_outer : (hs : List Holder) → AreInside hs → AreInside (outer hs)
inside_outer [] i = i
inside_outer (h ∷ hs) i = i.1

inside_turned : (hs : List Holder) (s : Sight) → AreInside hs → AreInside (turned hs s)
inside_turned hs s i = by_brace (opened s) (is_closing s)
  where
    by_brace : (o : Option Brace) (c : Bool) → AreInside (elim o as (λ _. List Holder) [ Some b ↦ within (innermost hs).depth b ∷ hs | None ↦ cond c (outer hs) hs ])
    by_brace (Some b) c = (inside_within (innermost hs).depth b, i)
    by_brace None true = inside_outer hs i
    by_brace None false = i

-- the rest of all open bodies, the innermost first
abbrev Rest : List ℕ → List Holder → Bool → List Word → List Node → Type 0
Rest text [] b ws ns = Shows text at_file_level b ws ns []
Rest text (h ∷ hs) b ws ns = (ms : List Node) × (end : List Word) × (os : List Node) × Shows text h b ws ms end × Rest text hs true end os × (ns ≡ ms ++ os)

rest_ends : (text : List ℕ) (hs : List Holder) (b : Bool) → Rest text hs b [] []
rest_ends text [] b = ends
rest_ends text (h ∷ hs) b = ([], [], [], ends, rest_ends text hs true, refl)

-- what goes on in the innermost body goes on in all
grow : (text : List ℕ) (hs : List Holder) (b c : Bool) (ws vs : List Word) (pre ns : List Node)
    → ((ms : List Node) (end : List Word) → Shows text (innermost hs) c vs ms end → Shows text (innermost hs) b ws (pre ++ ms) end)
    → Rest text hs c vs ns → Rest text hs b ws (pre ++ ns)
grow text [] b c ws vs pre ns goes r = goes ns [] r
grow text (h ∷ hs) b c ws vs pre ns goes r =
    let ms = r.0 in let end = r.1 in let os = r.2 in
    (pre ++ ms, end, os, goes ms end r.3, r.4, ap (λ (x : List Node). pre ++ x) r.5 ∙ sym (append_assoc pre ms os))

sight_leaves : (text : List ℕ) (h : Holder) (b : Bool) (w : Word) (ws : List Word) → is_inside h ≡ true → is_anew text w ≡ true → sight text h b (w ∷ ws) ≡ Leaves
unfolding sight is_at
sight_leaves text h b w ws i a = rw (i, a) refl

or_true : (b : Bool) → (b || true) ≡ true
or_true true = refl
or_true false = refl

-- at the file's level a word that is anew begins a statement
sight_anew : (text : List ℕ) (b : Bool) (w : Word) (ws : List Word) → is_anew text w ≡ true → sight text at_file_level true (w ∷ ws) ≡ sight text at_file_level b (w ∷ ws)
unfolding sight is_at can_begin
sight_anew text b w ws a = rw (a, or_true b) refl

-- before a word that is anew all bodies end
rest_leaves : (text : List ℕ) (hs : List Holder) (b : Bool) (w : Word) (ws : List Word) (ns : List Node)
    → AreInside hs → is_anew text w ≡ true
    → Shows text at_file_level true (w ∷ ws) ns [] → Shows text at_file_level b (w ∷ ws) ns []
    → Rest text hs b (w ∷ ws) ns
rest_leaves text [] b w ws ns i a begun here = here
rest_leaves text (h ∷ hs) b w ws ns i a begun here =
    ([], w ∷ ws, ns, leaves (sight_leaves text h b w ws i.0 a), rest_leaves text hs true w ws ns i.1 a begun begun, refl)

opened_begins : (s : Sight) (b : Brace) → opened s ≡ Some b → begins_after s ≡ true
opened_begins Leaves b e = cc
opened_begins Closes b e = cc
opened_begins (Package n) b e = cc
opened_begins (Import k n) b e = cc
opened_begins Message b e = refl
opened_begins Enum b e = refl
opened_begins Service b e = refl
opened_begins (Block n) b e = refl
opened_begins (Group n true) b e = refl
opened_begins (Group n false) b e = cc
opened_begins Opens b e = refl
opened_begins (Passes t) b e = cc

goes_open : (s : Sight) → goes_on_after s ≡ true → is_closing s ≡ false
goes_open Leaves e = refl
goes_open Closes e = cc
goes_open (Package n) e = refl
goes_open (Import k n) e = refl
goes_open Message e = refl
goes_open Enum e = refl
goes_open Service e = refl
goes_open (Block n) e = refl
goes_open (Group n o) e = refl
goes_open Opens e = refl
goes_open (Passes t) e = refl

module _ (text : List ℕ) (hs : List Holder) (b : Bool) (w : Word) (ws : List Word) (s : Sight) (ns : List Node) (is : sight text (innermost hs) b (w ∷ ws) ≡ s) where
  abbrev After : List Holder → Bool → Type 0
  After now begins = Rest text now begins (drop (taken s) (w ∷ ws)) ns

  abbrev Whole : Type 0
  Whole = Rest text hs b (w ∷ ws) (shown (innermost hs).depth (w ∷ ws) s ++ ns)

  step_opens : (br : Brace) → opened s ≡ Some br → After (within (innermost hs).depth br ∷ hs) true → Whole
  step_opens br o r =
      let inner = r.0 in let end = r.1 in let outs = r.2 in
      let pre = shown (innermost hs).depth (w ∷ ws) s in
      let all : (pre ++ inner) ++ outs ≡ pre ++ ns = append_assoc pre inner outs ∙ ap (λ (x : List Node). pre ++ x) (sym r.5) in
      subst (λ (x : List Node). Rest text hs b (w ∷ ws) x) all
      (grow text hs b true (w ∷ ws) end (pre ++ inner) outs (λ ms left' sh. opens s br inner ms end is o r.3 sh (append_assoc pre inner ms)) r.4)

  step_passes : opened s ≡ None → goes_on_after s ≡ true → After hs (begins_after s) → Whole
  step_passes o g r = grow text hs b (begins_after s) (w ∷ ws) (drop (taken s) (w ∷ ws)) (shown (innermost hs).depth (w ∷ ws) s) ns (λ ms end sh. passes s ms is o g sh refl) r

  step_goes : goes_on_after s ≡ true → After (turned hs s) (begins_after s) → Whole
  step_goes g r = by_brace (opened s) refl r
    where
      by_brace : (o : Option Brace) → opened s ≡ o → After (elim o as (λ _. List Holder) [ Some br ↦ within (innermost hs).depth br ∷ hs | None ↦ cond (is_closing s) (outer hs) hs ]) (begins_after s) → Whole
      by_brace (Some br) o r = step_opens br o (subst (λ (x : Bool). After (within (innermost hs).depth br ∷ hs) x) (opened_begins s br o) r)
      by_brace None o r = step_passes o g (subst (λ (x : Bool). After (cond x (outer hs) hs) (begins_after s)) (goes_open s g) r)

step_closes : (text : List ℕ) (hs : List Holder) (b : Bool) (w : Word) (ws : List Word) (ns : List Node)
    → is_inside (innermost hs) ≡ true → sight text (innermost hs) b (w ∷ ws) ≡ Closes
    → Rest text (outer hs) true ws ns → Rest text hs b (w ∷ ws) ns
step_closes text [] b w ws ns i is r = cc
step_closes text (h ∷ hs) b w ws ns i is r = ([], ws, ns, closes is, r, refl)

-- one sight, where it does not leave
step : (text : List ℕ) (hs : List Holder) (b : Bool) (w : Word) (ws : List Word) (s : Sight) (ns : List Node)
    → (is_inside (innermost hs) ≡ true → is_anew text w ≡ true → ⊥)
    → Seen text (innermost hs) w s → sight text (innermost hs) b (w ∷ ws) ≡ s
    → Rest text (turned hs s) (begins_after s) (drop (taken s) (w ∷ ws)) ns
    → Rest text hs b (w ∷ ws) (shown (innermost hs).depth (w ∷ ws) s ++ ns)
step text hs b w ws s ns stays (left i a) is r = absurd (stays i a)
step text hs b w ws s ns stays (closed i) is r = step_closes text hs b w ws ns i is r
step text hs b w ws s ns stays (good g) is r = step_goes text hs b w ws s ns is g.goes r

fewer : (w : Word) (ws : List Word) (n fuel : ℕ) → 1 ≤ n → length (w ∷ ws) ≤ suc fuel → length (drop n (w ∷ ws)) ≤ fuel
fewer w ws n fuel some enough = let e = length-drop n (w ∷ ws) in omega (arith, e)

-- what the words from one on show, where `now` are the open braces before it
abbrev pub turn : ℕ → List ℕ → List Holder → Bool → Word → List Word → List Node
turn fuel text now b w ws =
    let s = sight text (innermost now) b (w ∷ ws) in
    shown (innermost now).depth (w ∷ ws) s ++ shown_with fuel text (turned now s) (begins_after s) (drop (taken s) (w ∷ ws))

pub each_rest : (text : List ℕ) (fuel : ℕ) (hs : List Holder) (b : Bool) (ws : List Word) → length ws ≤ fuel → AreInside hs → Rest text hs b ws (shown_with fuel text hs b ws)
unfolding shown_with is_at
each_rest text zero hs b [] enough i = rest_ends text hs b
each_rest text zero hs b (w ∷ ws) enough i = absurd (omega arith)
each_rest text (suc fuel) hs b [] enough i = rest_ends text hs b
each_rest text (suc fuel) hs b (w ∷ ws) enough i = at_word (is_anew text w) refl (λ hs b ws. each_rest text fuel hs b ws)
  where
    Goes : Type 0
    Goes = (hs : List Holder) (b : Bool) (ws : List Word) → length ws ≤ fuel → AreInside hs → Rest text hs b ws (shown_with fuel text hs b ws)

    stepped : Goes → (now : List Holder) (b c : Bool) → AreInside now → (is_inside (innermost now) ≡ true → is_anew text w ≡ true → ⊥)
        → sight text (innermost now) c (w ∷ ws) ≡ sight text (innermost now) b (w ∷ ws)
        → Rest text now c (w ∷ ws) (turn fuel text now b w ws)
    stepped more now b c i stays is =
        let s = sight text (innermost now) b (w ∷ ws) in
        let v = seen text (innermost now) b w ws in
        let rest = drop (taken s) (w ∷ ws) in
        step text now c w ws s (shown_with fuel text (turned now s) (begins_after s) rest) stays v is
        (more (turned now s) (begins_after s) rest (fewer w ws (taken s) fuel (takes_some v stays) enough) (inside_turned now s i))

    at_word : (t : Bool) → is_anew text w ≡ t → Goes → Rest text hs b (w ∷ ws) (turn fuel text (cond t [] hs) b w ws)
    at_word true a more =
        rest_leaves text hs b w ws (turn fuel text [] b w ws) i a
        (stepped more [] b true tt (λ e f. cc) (sight_anew text b w ws a))
        (stepped more [] b b tt (λ e f. cc) refl)
    at_word false a more = stepped more hs b b i (λ e f. both_ways (is_anew text w) a f) refl

pub each_shows : (text : List ℕ) (ws : List Word) → Shows text at_file_level true ws (shown_from text ws) []
unfolding shown_from
each_shows text ws = each_rest text (length ws) [] true ws (omega arith) tt

-- what stands at the next word takes one, and deepens nothing past the limit
module _ (text : List ℕ) (hs : List Holder) (b : Bool) where
  not_left : (w : Word) (ws : List Word) → is_inside (innermost (still_open text (w ∷ ws) hs)) ≡ true → is_anew text w ≡ true → ⊥
  unfolding is_at
  not_left w ws i a = first (is_anew text w) a i
    where
      first : (t : Bool) → t ≡ true → is_inside (innermost (cond t [] hs)) ≡ true → ⊥
      first true e i = cc
      first false e i = cc

  pub next_takes : (ws : List Word) → 0 < length ws → 1 ≤ taken (next_sight text hs b ws)
  next_takes [] some = absurd (omega arith)
  next_takes (w ∷ ws) some = takes_some (seen text (innermost (still_open text (w ∷ ws) hs)) b w ws) (not_left w ws)

  pub next_shallow : (ws : List Word) → 0 < length ws → deepens (next_sight text hs b ws) ≡ true → (innermost (still_open text ws hs)).depth ≤ 63
  next_shallow [] some = absurd (omega arith)
  next_shallow (w ∷ ws) some = is_shallow (seen text (innermost (still_open text (w ∷ ws) hs)) b w ws)

-- what a loop has left to show of the words `ws` from number `at` on, after the statements `nodes`
pub record ToShow (text : List ℕ) (ws : List Word) (hs : List Holder) (b : Bool) (at : ℕ) (nodes : List Node) : Type 0 where
  pub fuel : ℕ
  pub enough : length (drop at ws) ≤ fuel
  pub all : nodes ++ shown_with fuel text hs b (drop at ws) ≡ shown_from text ws

pub show_all : (text : List ℕ) (ws : List Word) → ToShow text ws [] true 0 []
unfolding shown_from
show_all text ws = record { fuel = length ws; enough = omega arith; all = refl }

one_more : (text : List ℕ) (fuel : ℕ) (hs : List Holder) (b : Bool) (ws : List Word) → 0 < length ws
    → shown_with (suc fuel) text hs b ws ≡ shown (innermost (still_open text ws hs)).depth ws (next_sight text hs b ws) ++ shown_with fuel text (turned (still_open text ws hs) (next_sight text hs b ws)) (begins_after (next_sight text hs b ws)) (drop (taken (next_sight text hs b ws)) ws)
unfolding shown_with
one_more text fuel hs b [] some = absurd (omega arith)
one_more text fuel hs b (w ∷ ws) some = refl

pub show_next : (text : List ℕ) (ws here : List Word) (hs js : List Holder) (b c : Bool) (at next : ℕ) (old new : List Node) (s : Sight)
    → here ≡ drop at ws → 0 < length here
    → s ≡ next_sight text hs b here
    → new ≡ old ++ shown (innermost (still_open text here hs)).depth here s
    → js ≡ turned (still_open text here hs) s
    → c ≡ begins_after s
    → drop next ws ≡ drop (taken s) (drop at ws)
    → ToShow text ws hs b at old → ToShow text ws js c next new
show_next text ws here hs js b c at next old new s is some seen' added open' begins goes l = by_fuel l.fuel l.enough l.all
  where
    by_fuel : (fuel : ℕ) → length (drop at ws) ≤ fuel → old ++ shown_with fuel text hs b (drop at ws) ≡ shown_from text ws → ToShow text ws js c next new
    by_fuel zero enough all = let e : length here ≡ length (drop at ws) = ap length is in absurd (omega (arith, e, some))
    by_fuel (suc fuel) enough all =
        let e : length here ≡ length (drop at ws) = ap length is in
        let t : 1 ≤ taken s = subst (λ (x : Sight). 1 ≤ taken x) (sym seen') (next_takes text hs b here some) in
        let n : length (drop next ws) ≡ length (drop at ws) - taken s = ap length goes ∙ length-drop (taken s) (drop at ws) in
        let rest : drop next ws ≡ drop (taken s) here = goes ∙ ap (drop (taken s)) (sym is) in
        let more = ap (λ (x : List Word). shown_with (suc fuel) text hs b x) (sym is) ∙ one_more text fuel hs b here some in
        record {
          fuel = fuel;
          enough = omega (arith, e, t, n, enough, some);
          all = rw (added, open', begins, rest, seen', append_assoc old (shown (innermost (still_open text here hs)).depth here (next_sight text hs b here))) (rw more at all);
        }

pub show_ends : (text : List ℕ) (ws : List Word) (hs : List Holder) (b : Bool) (at : ℕ) (nodes : List Node) → length ws ≤ at → ToShow text ws hs b at nodes → nodes ≡ shown_from text ws
unfolding shown_with
show_ends text ws hs b at nodes le l = sym (append-nil nodes) ∙ ap (λ (x : List Node). nodes ++ x) (sym (nothing l.fuel)) ∙ l.all
  where
    none : drop at ws ≡ []
    none = drop_all at ws le

    empty : (fuel : ℕ) → shown_with fuel text hs b [] ≡ []
    empty zero = refl
    empty (suc fuel) = refl

    nothing : (fuel : ℕ) → shown_with fuel text hs b (drop at ws) ≡ []
    nothing fuel = ap (λ (x : List Word). shown_with fuel text hs b x) none ∙ empty fuel

-- the same of tokens, as the code has the braces, the holder and the sight
module _ (text : List ℕ) (hs js : List Holder) (b : Bool) (ts : List Token) (h : Holder) (s : Sight) (some : 0 < length ts) (closed' : js ≡ still_open text (words text ts) hs) (held : h ≡ innermost js) (is : s ≡ sight text h b (words text ts)) where
  any : 0 < length (words text ts)
  any = let e = length-map ts (word text) in omega (arith, e, some)

  seen_now : s ≡ next_sight text hs b (words text ts)
  seen_now = is ∙ ap (λ (x : Holder). sight text x b (words text ts)) (held ∙ ap innermost closed')

  pub takes_now : 1 ≤ taken s
  takes_now = subst (λ (x : Sight). 1 ≤ taken x) (sym seen_now) (next_takes text hs b (words text ts) any)

  pub shallow_now : deepens s ≡ true → (innermost js).depth ≤ 63
  shallow_now e =
      subst (λ (x : List Holder). (innermost x).depth ≤ 63) (sym closed')
      (next_shallow text hs b (words text ts) any (subst (λ (x : Sight). deepens x ≡ true) seen_now e))

pub some_words : (text : List ℕ) (ts rest : List Token) (at : ℕ) → rest ≡ drop at ts → at < length ts → 0 < length (words text rest)
some_words text ts rest at e less =
    let n = length-map rest (word text) in
    let l : length rest ≡ length ts - at = ap length e ∙ length-drop at ts in
    omega (arith, n, l, less)
