-- The kind of a post that was carried.
use Rattle.std.specs.Prelude.{◌≡◌}
use Rattle.pq_core.specs.Changes.{ChangeView}
use Rattle.pq_core.specs.declared.values.label.Label.{Label}
use Rattle.pq_core.specs.declared.values.request.Request.{Request}
use Rattle.pq_mail.specs.declared.post.Post.{Post}
use Rattle.pq_mail.specs.declared.post.Post.TheVariants.{Ask, Edit, Withdraw, End}
use Rattle.pq_hall.specs.declared.posting.Moved.{Moved}
use Rattle.pq_hall.specs.declared.posting.Moved.TheVariants.{Accepted, Edited, Withdrawn, Ended, Later}

-- `IsKindOf moved post` is that `post` is of the kind that `moved` says: a request, an edit, a withdrawal,
-- or the end of the posts
abbrev pub IsKindOf : {K : Type 0} → Moved K → Post K → Type 0
IsKindOf {K} (Accepted n) post = (request : Request K) × (post ≡ Ask request)
IsKindOf (Edited revision) post = (change : ChangeView) × (post ≡ Edit change)
IsKindOf (Withdrawn some) post = (label : Label) × (post ≡ Withdraw label)
IsKindOf Ended post = post ≡ End
IsKindOf (Later back) post = ⊥
