-- What was carried of an inbox.
use Rattle.std.specs.Prelude.{◌≡◌, ◌⊎◌, List, [], ◌∷◌, ◌++◌}
use Rattle.pq_core.specs.Changes.{ChangeView}
use Rattle.pq_core.specs.declared.values.label.Label.{Label}
use Rattle.pq_core.specs.declared.values.request.Request.{Request}
use Rattle.pq_mail.specs.declared.post.Post.{Post}
use Rattle.pq_mail.specs.declared.post.Post.TheVariants.{Ask, Edit, Withdraw, End}
use Rattle.pq_hall.specs.declared.posting.Moved.{Moved}
use Rattle.pq_hall.specs.declared.posting.Moved.TheVariants.{Accepted, Edited, Withdrawn, Ended, Later}

-- `Carries moved before after` is that the next post was carried, and is of the kind that `moved` says: a
-- request, an edit, a withdrawal, or the end of the posts, where none may have been left
abbrev pub Carries : {K : Type 0} → Moved K → List (Post K) → List (Post K) → Type 0
Carries {K} (Accepted n) before after = (request : Request K) × (after ≡ before ++ Ask request ∷ [])
Carries {K} (Edited revision) before after = (change : ChangeView) × (after ≡ before ++ Edit change ∷ [])
Carries (Withdrawn some) before after = (label : Label) × (after ≡ before ++ Withdraw label ∷ [])
Carries Ended before after = (after ≡ before ++ End ∷ []) ⊎ (after ≡ before)
Carries (Later post) before after = ⊥

-- `CarriesSome before after` is that one post was carried
abbrev pub CarriesSome : {K : Type 0} → List (Post K) → List (Post K) → Type 0
CarriesSome {K} before after = (post : Post K) × (after ≡ before ++ post ∷ [])
