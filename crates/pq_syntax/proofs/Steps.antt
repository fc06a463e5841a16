-- One token, rules one after the other, and lists item by item: what a step of the parser takes, reads or fails at.
use Rattle.std.proofs.Common.{◌≡◌, ℕ, ◌-◌, suc, List, [], ◌∷◌, ◌++◌, ap, append_assoc, refl, sym, ◌∙◌, true, false, subst, length, take, drop, sub-one}
use Rattle.std.proofs.lemmas.List.{length-map, append-nil}
use Rattle.std.proofs.Math.Seq.{take-length}
use Rattle.std.specs.Prelude.{slice_index_or}
use Rattle.pq_lex.specs.declared.token.Token.{Token}
use Rattle.pq_syntax.specs.Rule.{Rule, Parse}
use Rattle.pq_syntax.specs.Rule.Rule.{Single, Empty, Seq, Alt, Star}
use Rattle.pq_syntax.specs.aux.Takes.{Stops, starts_at}
use Rattle.pq_syntax.specs.Rule.Parse.{Leaf, Nil, Left, Right}
use Rattle.pq_syntax.specs.aux.Machine.{nullable}
use Rattle.pq_syntax.specs.Parts.{list_of}
use Rattle.pq_syntax.proofs.Loops.{loop_begins, loop_goes, loop_ends, loop_fails}
use Rattle.pq_syntax.specs.Words.{Word, word, words, accepts}
use Rattle.pq_syntax.specs.aux.Steps.{TakesToken, Passes, PassesFrom, Reads, Adds, Begins, Adding, Fails, FailsWithin}
use Rattle.pq_syntax.specs.declared.failure.Failure.{Failure}
use Rattle.pq_syntax.specs.declared.failure.Failure.TheVariants.{Fault}
use Rattle.pq_syntax.specs.declared.terminal.Terminal.{Terminal}
use Rattle.pq_syntax.proofs.Rules.{takes_one, takes_then, takes_left, takes_none, stops_one, stops_first, stops_then, stops_left, stops_right}

pub token_first : (text : List ℕ) (c : Terminal) (ts : List Token) (d : Token)
    → starts_at accepts (Single c) (words text ts) ≡ true
    → TakesToken text c ts (take (length ts - 1) (drop 1 ts)) (slice_index_or ts 0 d)
token_first text c [] d e = cc
token_first text c (t ∷ ts) d e =
    let all : ts ≡ take (suc (length ts) - 1) ts = sym (simp (sub-one, take-length)) in
    subst (λ l. TakesToken text c (t ∷ ts) l t) all (record { takes = takes_one c (word text t) (words text ts) e; accepted = e })

pub token_passes : {text : List ℕ} {c : Terminal} {x y : List Token} {t : Token} → TakesToken text c x y t → Passes text (Single c) x y
token_passes s = record { parse = _; takes = s.takes }

pub passes_first : (text : List ℕ) (c : Terminal) (ts : List Token)
    → starts_at accepts (Single c) (words text ts) ≡ true
    → Passes text (Single c) ts (take (length ts - 1) (drop 1 ts))
passes_first text c [] e = cc
passes_first text c (t ∷ ts) e = token_passes (token_first text c (t ∷ ts) t e)

-- where a token of the terminal was taken, one begins
pub starts_token : {text : List ℕ} {c : Terminal} {tokens left : List Token} {t : Token}
    → TakesToken text c tokens left t
    → starts_at accepts (Single c) (words text tokens) ≡ true
starts_token {c = c} s = ap (starts_at accepts (Single c)) s.takes.read ∙ s.accepted

-- an optional token
pub passes_present : (text : List ℕ) (c : Terminal) (ts : List Token)
    → starts_at accepts (Single c) (words text ts) ≡ true
    → Passes text (Alt (Single c) Empty) ts (take (length ts - 1) (drop 1 ts))
passes_present text c ts h = let p = passes_first text c ts h in record { parse = Left p.parse; takes = takes_left h p.takes }

pub passes_absent : (text : List ℕ) (c : Terminal) (ts : List Token) → starts_at accepts (Single c) (words text ts) ≡ false → Passes text (Alt (Single c) Empty) ts ts
passes_absent text c ts h = record { parse = _; takes = takes_none h refl }

-- the same, and what it is read as
module _ {X : Type 0} (text : List ℕ) (c : Terminal) (view : Parse Word → X) where
  pub reads_present : (ts : List Token) (d : Token) (x : X)
      → starts_at accepts (Single c) (words text ts) ≡ true
      → x ≡ view (Left (Leaf (word text (slice_index_or ts 0 d))))
      → Reads text (Alt (Single c) Empty) view ts (take (length ts - 1) (drop 1 ts)) x
  reads_present ts d x h e = record { parse = _; takes = takes_left h (token_first text c ts d h).takes; is = e }

  pub reads_absent : (ts : List Token) (x : X)
      → starts_at accepts (Single c) (words text ts) ≡ false
      → x ≡ view (Right Nil)
      → Reads text (Alt (Single c) Empty) view ts ts x
  reads_absent ts x h e = record { parse = _; takes = takes_none h refl; is = e }

pub passes_token : {text : List ℕ} {c : Terminal} {b : Rule Terminal} {x y z : List Token} {t : Token}
    → TakesToken text c x y t
    → Passes text b y z
    → Passes text (Seq (Single c) b) x z
passes_token s p = record { parse = _; takes = takes_then s.takes p.takes }

pub passes_then : {text : List ℕ} {a b : Rule Terminal} {x y z : List Token} → Passes text a x y → Passes text b y z → Passes text (Seq a b) x z
passes_then s p = record { parse = _; takes = takes_then s.takes p.takes }

pub fails_here : (text : List ℕ) (c : Terminal) (ts : List Token)
    → starts_at accepts (Single c) (words text ts) ≡ false
    → Fails text (Single c) ts (Fault (length ts))
fails_here text c ts h =
    record {
      stops = λ n e. let same : length ts ≡ n = cc in subst (λ m. Stops accepts (Single c) (words text ts) m) (length-map _ _ ∙ same)
          (stops_one c (words text ts) h);
    }

pub fails_first : {text : List ℕ} {a b : Rule Terminal} {x : List Token} {e : Failure} → Fails text a x e → Fails text (Seq a b) x e
fails_first f = record { stops = λ n h. stops_first (f.stops n h) }

pub fails_token : {text : List ℕ} {c : Terminal} {b : Rule Terminal} {x y : List Token} {t : Token} {e : Failure}
    → TakesToken text c x y t
    → Fails text b y e
    → Fails text (Seq (Single c) b) x e
fails_token s f = record { stops = λ n h. stops_then s.takes (f.stops n h) }

pub fails_then : {text : List ℕ} {a b : Rule Terminal} {x y : List Token} {e : Failure} → Passes text a x y → Fails text b y e → Fails text (Seq a b) x e
fails_then s f = record { stops = λ n h. stops_then s.takes (f.stops n h) }

pub fails_added : {X : Type 0} {text : List ℕ} {a b : Rule Terminal} {view : Parse Word → List X} {x y : List Token} {old new : List X} {e : Failure}
    → Adds text a view x y old new
    → Fails text b y e
    → Fails text (Seq a b) x e
fails_added s f = record { stops = λ n h. stops_then s.takes (f.stops n h) }

pub fails_read : {X : Type 0} {text : List ℕ} {a b : Rule Terminal} {view : Parse Word → X} {x y : List Token} {v : X} {e : Failure}
    → Reads text a view x y v
    → Fails text b y e
    → Fails text (Seq a b) x e
fails_read s f = record { stops = λ n h. stops_then s.takes (f.stops n h) }

-- one of two alternatives, by which begins
pub fails_left : {text : List ℕ} {a b : Rule Terminal} {x : List Token} {e : Failure}
    → starts_at accepts a (words text x) ≡ true
    → Fails text a x e
    → Fails text (Alt a b) x e
fails_left h f = record { stops = λ n e. stops_left h (f.stops n e) }

pub fails_right : {text : List ℕ} {a b : Rule Terminal} {x : List Token} {e : Failure}
    → starts_at accepts a (words text x) ≡ false
    → nullable a ≡ false
    → Fails text b x e
    → Fails text (Alt a b) x e
fails_right h k f = record { stops = λ n e. stops_right h k (f.stops n e) }

-- a list item by item, whose items are read by a function of their own
module _ {X : Type 0} {text : List ℕ} {r : Rule Terminal} {view : Parse Word → List X} where
  pub adding_begins : (tokens : List Token) (old : List X) → Adding text r view tokens tokens old old
  adding_begins tokens old = record { items = []; loop = loop_begins (words text tokens); is = sym (append-nil old) }

  pub adding_goes : {tokens rest after : List Token} {old new newer : List X}
      → Adding text r view tokens rest old new
      → Begins text r view rest after new newer
      → Adding text r view tokens after old newer
  adding_goes {old = old} l b = record {
    items = _;
    loop = loop_goes l.loop b.in_first b.adds.takes;
    is = b.adds.is ∙ ap (λ x. x ++ view b.adds.parse) l.is ∙ append_assoc old l.items (view b.adds.parse);
  }

  pub adding_ends : {tokens rest : List Token} {old new : List X}
      → Adding text r view tokens rest old new
      → starts_at accepts r (words text rest) ≡ false
      → Adds text (Star r) (list_of view) tokens rest old new
  adding_ends {old = old} l h = let e = loop_ends l.loop h in record { parse = e.0; takes = e.1; is = l.is ∙ ap (λ x. old ++ x) e.2 }

  pub adding_fails : {tokens rest : List Token} {old new : List X} {e : Failure}
      → Adding text r view tokens rest old new
      → FailsWithin text r rest e
      → Fails text (Star r) tokens e
  adding_fails l f = record { stops = λ n h. loop_fails l.loop (f.in_first n h) (f.fails.stops n h) }

-- the view of items that are passed and not kept
abbrev pub nothing : Parse Word → List ℕ
nothing p = []

-- items passed one after the other
module _ {text : List ℕ} {r : Rule Terminal} {tokens rest : List Token} where
  pub passing_goes : {after : List Token} → Adding text r nothing tokens rest [] [] → PassesFrom text r rest after → Adding text r nothing tokens after [] []
  passing_goes l p = adding_goes l (record { in_first = p.in_first; adds = record { parse = p.passes.parse; takes = p.passes.takes; is = refl } })

  pub passing_ends : Adding text r nothing tokens rest [] [] → starts_at accepts r (words text rest) ≡ false → Passes text (Star r) tokens rest
  passing_ends l h = let e = adding_ends l h in record { parse = e.parse; takes = e.takes }
