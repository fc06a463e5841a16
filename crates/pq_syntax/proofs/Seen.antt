-- What a sight can be: where it leaves or closes a body a brace is open, and any other takes a word
-- and deepens nothing past the limit.
use Rattle.std.proofs.Common.{◌≡◌, ℕ, suc, ◌+◌, ◌≤◌, Bool, true, false, not, ◌&&◌, ◌||◌, cond, nat_lt, codes, List, ◌∷◌, drop, Option, Some, None, unwrap_or, refl, subst, arith}
use Rattle.std.proofs.lemmas.Bool.{and_parts}
use Rattle.std.proofs.lemmas.Bool.Decides.{nat_tests}
use Rattle.pq_syntax.specs.Loose.{is_at, is_name, is_word, is_anew, can_begin, is_inside, first_of, texts_at, package_at, import_at, keyword_at, body_at, extended_at, extended_name, extend_at, headed, group_at, file_statement, holds_statements, held_statement, holds_groups, held_group, begun_at, statement_at, other_at, sight, taken, goes_on_after, most_messages, dotted, before_body, before_texts, kind_at, texts}
use Rattle.pq_syntax.specs.Words.{Word, accepts}
use Rattle.pq_syntax.specs.aux.Loosely.{deepens}
use Rattle.pq_syntax.specs.declared.loose.open.Holder.{Holder}
use Rattle.pq_syntax.specs.declared.loose.sights.Sight.{Sight}
use Rattle.pq_syntax.specs.declared.loose.sights.Sight.TheVariants.{Leaves, Closes, Package, Import, Message, Enum, Service, Block, Opens, Passes}
use Rattle.pq_syntax.specs.declared.terminal.Terminal.TheVariants.{PackageWord, ImportWord, MessageWord, EnumWord, ServiceWord, OneofWord, ExtendWord, AnyText, Equals, OpenBrace, CloseBrace, Semicolon}
use Rattle.pq_syntax.specs.declared.tree.ImportKind.{ImportKind}
use Rattle.pq_syntax.specs.declared.tree.ImportKind.TheVariants.{Plain, Public, Weak}

-- a sight within a body, in `h`
pub record Good (h : Holder) (s : Sight) : Type 0 where
  pub takes : 1 ≤ taken s
  pub goes : goes_on_after s ≡ true
  pub shallow : deepens s ≡ true → h.depth ≤ 63

-- a sight that one counts, which deepens nothing
pub record Flat (s : Sight) : Type 0 where
  pub takes : 1 ≤ taken s
  pub goes : goes_on_after s ≡ true

abbrev Each : (Sight → Type 0) → Option Sight → Type 0
Each P o = (s : Sight) → o ≡ Some s → P s

each_none : (P : Sight → Type 0) → Each P None
each_none P s e = cc

each_some : (P : Sight → Type 0) (s : Sight) → P s → Each P (Some s)
each_some P s p t e = let same : s ≡ t = cc in subst P same p

each_first : (P : Sight → Type 0) (a b : Option Sight) → Each P a → Each P b → Each P (first_of a b)
each_first P (Some s) b p q = p
each_first P None b p q = q

each_cond : (P : Sight → Type 0) (t : Bool) (a b : Option Sight) → (t ≡ true → Each P a) → (t ≡ false → Each P b) → Each P (cond t a b)
each_cond P true a b p q = p refl
each_cond P false a b p q = q refl

each_when : (P : Sight → Type 0) (t : Bool) (a : Option Sight) → (t ≡ true → Each P a) → Each P (cond t a None)
each_when P t a p = each_cond P t a None p (λ _. each_none P)

package_good : (text : List ℕ) (h : Holder) (ws : List Word) → Each (Good h) (package_at text ws)
unfolding package_at
package_good text h ws =
    let s = Package (2 + dotted text (drop 2 ws)) in
    each_when (Good h) (is_at (accepts PackageWord) 0 ws && is_at (is_name text) 1 ws) (Some s) (λ _. each_some (Good h) s (record { takes = omega arith; goes = refl; shallow = λ e. cc }))

before_some : (k : ImportKind) → 1 ≤ before_texts k
before_some Plain = omega arith
before_some Public = omega arith
before_some Weak = omega arith

texts_good : (h : Holder) (k : ℕ) (ws : List Word) → 1 ≤ k → Each (Good h) (texts_at k ws)
unfolding texts_at
texts_good h k ws i =
    let s = Import k (k + texts (drop k ws)) in
    each_when (Good h) (is_at (accepts AnyText) k ws) (Some s) (λ _. each_some (Good h) s (record { takes = omega arith; goes = refl; shallow = λ e. cc }))

import_good : (h : Holder) (ws : List Word) → Each (Good h) (import_at ws)
unfolding import_at
import_good h ws =
    let k = before_texts (kind_at ws) in
    each_when (Good h) (is_at (accepts ImportWord) 0 ws) (texts_at k ws) (λ _. texts_good h k ws (before_some (kind_at ws)))

-- the sights of a keyword, by what the tests of it answer
keyword_flat : (ws : List Word) → Each Flat (keyword_at ws)
unfolding keyword_at
keyword_flat ws = first (is_at (accepts MessageWord) 0 ws) (is_at (accepts EnumWord) 0 ws) (is_at (accepts ServiceWord) 0 ws) (is_at (accepts OneofWord) 0 ws)
  where
    first : (a b c d : Bool) → Each Flat (cond a (Some Message) (cond b (Some Enum) (cond c (Some Service) (cond d (Some (Block 3)) None))))
    first true b c d = each_some Flat Message (record { takes = omega arith; goes = refl })
    first false true c d = each_some Flat Enum (record { takes = omega arith; goes = refl })
    first false false true d = each_some Flat Service (record { takes = omega arith; goes = refl })
    first false false false true = each_some Flat (Block 3) (record { takes = omega arith; goes = refl })
    first false false false false = each_none Flat

body_flat : (text : List ℕ) (ws : List Word) → Each Flat (body_at text ws)
unfolding body_at
body_flat text ws = each_when Flat (is_at (is_name text) 1 ws && is_at (accepts OpenBrace) 2 ws) (keyword_at ws) (λ _. keyword_flat ws)

extended_flat : (text : List ℕ) (k : ℕ) (ws : List Word) → Each Flat (extended_at text k ws)
unfolding extended_at
extended_flat text k ws =
    let n = suc k + dotted text (drop (suc k) ws) in
    each_when Flat (is_at (is_name text) k ws && is_at (accepts OpenBrace) n ws) (Some (Block (suc n))) (λ _. each_some Flat (Block (suc n)) (record { takes = omega arith; goes = refl }))

extend_flat : (text : List ℕ) (ws : List Word) → Each Flat (extend_at text ws)
unfolding extend_at
extend_flat text ws = each_when Flat (is_at (accepts ExtendWord) 0 ws) (extended_at text (extended_name ws) ws) (λ _. extended_flat text (extended_name ws) ws)

headed_flat : (n : ℕ) (b : Bool) → 1 ≤ n → Flat (headed n b)
headed_flat n true h = record { takes = omega arith; goes = refl }
headed_flat n false h = record { takes = h; goes = refl }

group_flat : (text : List ℕ) (ws : List Word) → Each Flat (group_at text ws)
unfolding group_at
group_flat text ws =
    let n = 3 + before_body text (drop 3 ws) in
    let s = headed n (is_at (accepts OpenBrace) n ws) in
    each_when Flat (is_at (is_word (codes "group")) 0 ws && is_at (is_name text) 1 ws && is_at (accepts Equals) 2 ws) (Some s)
    (λ _. each_some Flat s (headed_flat n (is_at (accepts OpenBrace) n ws) (omega arith)))

-- what deepens stands in a holder below the limit
deep_enough : (a : Bool) (n : ℕ) → (a && not (nat_lt most_messages n)) ≡ true → n ≤ 63
deep_enough true n h = not_above (nat_lt most_messages n) n refl h
  where
    not_above : (t : Bool) (n : ℕ) → nat_lt most_messages n ≡ t → not t ≡ true → n ≤ 63
    not_above true n e h = cc
    not_above false n e h = grind (arith, nat_tests)
deep_enough false n h = cc

good_flat : (h : Holder) (o : Option Sight) → h.depth ≤ 63 → Each Flat o → Each (Good h) o
good_flat h o d p s e = let f = p s e in record { takes = f.takes; goes = f.goes; shallow = λ _. d }

held_good : (text : List ℕ) (h : Holder) (ws : List Word) → Each (Good h) (held_statement text h ws)
unfolding held_statement
held_good text h ws =
    let o = first_of (body_at text ws) (extend_at text ws) in
    each_when (Good h) (holds_statements h.brace && not (nat_lt most_messages h.depth)) o
    (λ e. good_flat h o (deep_enough (holds_statements h.brace) h.depth e) (each_first Flat (body_at text ws) (extend_at text ws) (body_flat text ws) (extend_flat text ws)))

group_good : (text : List ℕ) (h : Holder) (ws : List Word) → Each (Good h) (held_group text h ws)
unfolding held_group
group_good text h ws =
    each_when (Good h) (holds_groups h.brace && not (nat_lt most_messages h.depth)) (group_at text ws)
    (λ e. good_flat h (group_at text ws) (deep_enough (holds_groups h.brace) h.depth e) (group_flat text ws))

file_good : (text : List ℕ) (h : Holder) (ws : List Word) → Each (Good h) (file_statement text h ws)
unfolding file_statement
file_good text h ws =
    each_cond (Good h) (is_inside h) None (first_of (package_at text ws) (import_at ws)) (λ _. each_none (Good h))
    (λ _. each_first (Good h) (package_at text ws) (import_at ws) (package_good text h ws) (import_good h ws))

begun_good : (text : List ℕ) (h : Holder) (b : Bool) (ws : List Word) → Each (Good h) (begun_at text h b ws)
unfolding begun_at
begun_good text h b ws =
    each_when (Good h) b (first_of (file_statement text h ws) (held_statement text h ws))
    (λ _. each_first (Good h) (file_statement text h ws) (held_statement text h ws) (file_good text h ws) (held_good text h ws))

statement_good : (text : List ℕ) (h : Holder) (b : Bool) (ws : List Word) → Each (Good h) (statement_at text h b ws)
unfolding statement_at
statement_good text h b ws = each_first (Good h) (begun_at text h b ws) (held_group text h ws) (begun_good text h b ws) (group_good text h ws)

other_good : (h : Holder) (ws : List Word) → Good h (other_at ws)
unfolding other_at
other_good h ws = first (is_at (accepts OpenBrace) 0 ws) (is_at (accepts Semicolon) 0 ws || is_at (accepts CloseBrace) 0 ws)
  where
    first : (t u : Bool) → Good h (cond t Opens (Passes u))
    first true u = record { takes = omega arith; goes = refl; shallow = λ e. cc }
    first false u = record { takes = omega arith; goes = refl; shallow = λ e. cc }

good_or : (h : Holder) (o : Option Sight) (s : Sight) → Each (Good h) o → Good h s → Good h (unwrap_or o s)
good_or h (Some t) s p q = p t refl
good_or h None s p q = q

-- what stands at the word `w`
pub data Seen (text : List ℕ) (h : Holder) (w : Word) : Sight → Type 0 where
  left : is_inside h ≡ true → is_anew text w ≡ true → Seen text h w Leaves
  closed : is_inside h ≡ true → Seen text h w Closes
  good : {s : Sight} → Good h s → Seen text h w s

pub seen : (text : List ℕ) (h : Holder) (b : Bool) (w : Word) (ws : List Word) → Seen text h w (sight text h b (w ∷ ws))
unfolding sight is_at
seen text h b w ws = leaving (is_inside h && is_anew text w) refl
  where
    begins : Bool
    begins = b || can_begin text w

    rest : Sight
    rest = unwrap_or (statement_at text h begins (w ∷ ws)) (other_at (w ∷ ws))

    rest_good : Seen text h w rest
    rest_good = good (good_or h (statement_at text h begins (w ∷ ws)) (other_at (w ∷ ws)) (statement_good text h begins (w ∷ ws)) (other_good h (w ∷ ws)))

    closing : (t : Bool) → (is_inside h && accepts CloseBrace w) ≡ t → Seen text h w (cond t Closes rest)
    closing true e = closed (and_parts (is_inside h) (accepts CloseBrace w) e).0
    closing false e = rest_good

    leaving : (t : Bool) → (is_inside h && is_anew text w) ≡ t → Seen text h w (cond t Leaves (cond (is_inside h && accepts CloseBrace w) Closes rest))
    leaving true e = let p = and_parts (is_inside h) (is_anew text w) e in left p.0 p.1
    leaving false e = closing (is_inside h && accepts CloseBrace w) refl

-- a sight that does not leave takes a word
pub takes_some : {text : List ℕ} {h : Holder} {w : Word} {s : Sight} → Seen text h w s → (is_inside h ≡ true → is_anew text w ≡ true → ⊥) → 1 ≤ taken s
takes_some (left i a) stays = absurd (stays i a)
takes_some (closed i) stays = omega arith
takes_some (good g) stays = g.takes

-- a sight that deepens stands below the limit
pub is_shallow : {text : List ℕ} {h : Holder} {w : Word} {s : Sight} → Seen text h w s → deepens s ≡ true → h.depth ≤ 63
is_shallow (left i a) e = cc
is_shallow (closed i) e = cc
is_shallow (good g) e = g.shallow e
