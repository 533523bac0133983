-- Stores that are watched, in their lists.
use Rattle.std.proofs.Common.{◌≡◌, ◌++◌, ◌∙◌, ℕ, List, [], ◌∷◌, sym, ap}
use Rattle.std.proofs.lemmas.List.{append_assoc}
use Rattle.store_memory.specs.Views.{View}
use Rattle.service_watch.specs.Gone.{HasGone, HaveGone}
use Rattle.service_watch.specs.Watching.{store_in, stores_in}
use Rattle.service_watch.specs.declared.watched.Watched.{Watched}

module _ {S : Type 0} (from : ℕ → View) (view : S → View) where
  pub gone_last : (stores : List S) (store : S) → HaveGone from view (stores ++ store ∷ [])
      → ∥ HasGone (from (view store).state.server.0) (view store) ∥₁
  gone_last [] store have = have.0
  gone_last (x ∷ stores) store have = gone_last stores store have.1

  pub gone_front : (stores : List S) (store : S) → HaveGone from view (stores ++ store ∷ []) → HaveGone from view stores
  gone_front [] store have = tt
  gone_front (x ∷ stores) store have = (have.0, gone_front stores store have.1)

-- one more, the last, was taken from a list and is watched before others
pub one_watched : {S O : Type 0} {g : _} {h : _} (all front list : List S) (watched news : List (Watched S O g h))
    (store : S) (last : Watched S O g h) → all ≡ list ++ stores_in watched → list ≡ front ++ store ∷ []
    → news ≡ last ∷ watched → store_in last ≡ store → all ≡ front ++ stores_in news
one_watched all front list watched news store last was is put same =
    was ∙ ap (λ l. l ++ stores_in watched) is ∙ append_assoc front (store ∷ []) (stores_in watched)
    ∙ ap (λ x. front ++ x ∷ stores_in watched) (sym same) ∙ ap (λ l. front ++ stores_in l) (sym put)

-- whatever was done with stores that are watched
pub all_went : {S O : Type 0} {g : _} {h : _} (all : List (Watched S O g h)) → g.tells → HaveGone h.from g.view
    (stores_in all)
all_went [] told = tt
all_went (w ∷ all) told = (w.went told, all_went all told)
