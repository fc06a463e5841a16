-- The errors of imports, by what the code looks up: states by name, and names listed before.
use Rattle.std.proofs.Common.{◌≡◌, ℕ, ◌+◌, ◌<◌, Bool, true, false, cond, List, [], ◌∷◌, ◌++◌, drop, length, get_or, refl, sym, ◌∙◌, ap, append_assoc, add-one, drop-cons}
use Rattle.std.specs.Prelude.{bytes_eq, codes, Option, Some, unwrap_or}
use Rattle.pq_checks.specs.Faults.{arrowed, ring_text, import_faults, import_faults_by, is_listed}
use Rattle.pq_checks.specs.Members.{ImportName}
use Rattle.pq_checks.specs.Surroundings.{state_in}
use Rattle.pq_checks.specs.aux.Imports.{found_in, first_name, by_imports}
use Rattle.pq_checks.specs.declared.around.surroundings.FileState.{FileState}
use Rattle.pq_checks.specs.declared.around.surroundings.FileState.TheVariants.{Readable}
use Rattle.pq_checks.specs.declared.around.surroundings.Imported.{Imported}

-- ---- states

choice : (name : List ℕ) (i : Imported) (is : List Imported) (b : Bool) → state_in is name ≡ unwrap_or (found_in is name) Readable
    → cond b i.state (state_in is name) ≡ unwrap_or (cond b (Some i.state) (found_in is name)) Readable
choice name i is true rest = refl
choice name i is false rest = rest

-- a state as the map finds it
pub state_found : (imported : List Imported) (name : List ℕ) → state_in imported name ≡ unwrap_or (found_in imported name) Readable
state_found [] name = refl
state_found (i ∷ is) name = choice name i is (bytes_eq i.file name) (state_found is name)

-- one more file before the others
pub found_more : (imported : List Imported) (i : ℕ) (d : Imported) (name : List ℕ) → i < length imported → d ≡ get_or imported i d
    → found_in (drop i imported) name ≡ cond (bytes_eq d.file name) (Some d.state) (found_in (drop (i + 1) imported) name)
found_more imported i d name lt is =
    ap (λ (is : List Imported). found_in is name) (drop-cons imported i d lt ∙ ap (λ n. get_or imported i d ∷ drop n imported) (sym (add-one i)))
    ∙ ap (λ (x : Imported). cond (bytes_eq x.file name) (Some x.state) (found_in (drop (i + 1) imported) name)) (sym is)

-- ---- the message about a ring

-- one more name
pub arrow_more : (last text named after whole : List ℕ) (ring : List (List ℕ)) (i : ℕ) (d : List ℕ) → i < length ring → d ≡ get_or ring i d
    → named ≡ text ++ d → after ≡ named ++ codes " -> " → text ++ arrowed (drop i ring) last ≡ whole → after ++ arrowed (drop (i + 1) ring) last ≡ whole
arrow_more last text named after whole ring i d lt is put arrow so_far =
    let rest = arrowed (drop (i + 1) ring) last in
    let cut : arrowed (drop i ring) last ≡ d ++ codes " -> " ++ rest =
    ap (λ (fs : List (List ℕ)). arrowed fs last) (drop-cons ring i d lt ∙ ap (λ n. get_or ring i d ∷ drop n ring) (sym (add-one i)))
    ∙ ap (λ x. x ++ codes " -> " ++ rest) (sym is) in
    ap (λ t. t ++ rest) (arrow ∙ ap (λ t. t ++ codes " -> ") put ∙ append_assoc text d (codes " -> "))
    ∙ append_assoc text (d ++ codes " -> ") rest
    ∙ ap (λ t. text ++ t) (sym cut)
    ∙ so_far

-- the message is the names with arrows, and the first again
pub ring_said : (ring : List (List ℕ)) → ring_text ring ≡ codes "import cycle: " ++ arrowed ring (first_name ring)
ring_said [] = refl
ring_said (f ∷ fs) = refl

-- ---- one import

-- the errors of an import, by its state and whether its name is repeated
pub import_said : (imported : List Imported) (ring : Option (List (List ℕ))) (next : Option (List ℕ)) (earlier : List ImportName) (i : ImportName) (state : FileState) (repeated : Bool)
    → state ≡ state_in imported i.value → repeated ≡ is_listed i.value earlier → import_faults_by state ring next repeated i ≡ import_faults (by_imports imported ring next) earlier i
import_said imported ring next earlier i state repeated is_state is_repeated =
    ap (λ s. import_faults_by s ring next repeated i) is_state ∙ ap (λ b. import_faults_by (state_in imported i.value) ring next b i) is_repeated
