-- All passes in one.
use Rattle.std.proofs.Common.{◌≡◌, zero, suc, ◌+◌, ◌<◌, List, [], ◌∷◌, ◌++◌, length, refl, sym, ap, ◌∙◌, subst, arith}
use Rattle.std.proofs.Common.{append_assoc}
use Rattle.std.specs.Prelude.{slice_index_or}
use Rattle.std.specs.List.{All}
use Rattle.std.proofs.lemmas.List.Sums.{sum_by-cons}
use Rattle.std.proofs.lemmas.List.{append-nil}
use Rattle.hub_cell.specs.Lists.{IsPrefix, entries, IsShuffle}
use Rattle.hub_cell.specs.Passes.{PassView, CellView, IsJoined, IsGathered, IsClosed, parts_of}
use Rattle.hub_cell.proofs.Orders.{shuffles_one}

module _ {X : Type 0} where
  middle : (xs ys : List X) (x : X) → slice_index_or (xs ++ x ∷ ys) (length xs) x ≡ x
  middle [] ys x = refl
  middle (z ∷ zs) ys x = middle zs ys x

  below_middle : (xs ys : List X) (x : X) → length xs < length (xs ++ x ∷ ys)
  below_middle [] ys x = omega arith
  below_middle (z ∷ zs) ys x = let i = below_middle zs ys x in omega arith

  pub all_middle : (P : X → Type 0) (xs ys : List X) (x : X) → All P (xs ++ x ∷ ys) → P x
  all_middle P xs ys x h = subst P (middle xs ys x) (h (length xs) x (below_middle xs ys x))

  pub all_cons : (P : X → Type 0) (x : X) (xs : List X) → P x → All P xs → All P (x ∷ xs)
  all_cons P x xs p h zero d lt = p
  all_cons P x xs p h (suc k) d lt = h k d (omega arith)

  pub all_imp : (P Q : X → Type 0) (xs : List X) → ((x : X) → P x → Q x) → All P xs → All Q xs
  all_imp P Q xs f h k d lt = f _ (h k d lt)

module _ {E : Type 0} where
  pub prefix_trans : (xs ys zs : List E) → IsPrefix xs ys → IsPrefix ys zs → IsPrefix xs zs
  prefix_trans xs ys zs p q = (p.0 ++ q.0, q.1 ∙ ap (λ l. l ++ q.0) p.1 ∙ append_assoc xs p.0 q.0)

  pub gathered_one : {T : Type 0} (cell : CellView T) (p : PassView E) → p.cell ≡ cell.id → IsGathered cell p (p ∷ [])
  gathered_one cell p of_cell = record {
    of_cell = of_cell;
    seats = (let s = sum_by-cons (λ (q : PassView E). q.spare + 1) p [] in omega arith);
    made = shuffles_one (entries p.made);
    seen = all_cons (λ (q : PassView E). IsPrefix q.seen p.seen) p [] ([], sym (append-nil p.seen))
        (λ k d lt. absurd (omega arith));
  }

  pub gathered_more : {T : Type 0} (cell : CellView T) (all p all' : PassView E) (rest : List (PassView E)) →
      IsGathered cell all rest → IsJoined all p all' → IsGathered cell all' (p ∷ rest)
  gathered_more cell all p all' rest h j = record {
    of_cell = ap (λ q. q.cell) j.pass_is ∙ h.of_cell;
    seats = (let s = sum_by-cons (λ (q : PassView E). q.spare + 1) p rest in let a = ap (λ q. q.spare) j.pass_is in
        let b = h.seats in omega arith);
    made = (entries all.made, j.woven, h.made);
    seen = all_cons (λ (q : PassView E). IsPrefix q.seen all'.seen) p rest j.seen_too
        (all_imp (λ (q : PassView E). IsPrefix q.seen all.seen) (λ (q : PassView E). IsPrefix q.seen all'.seen) rest
        (λ q known. prefix_trans q.seen all.seen all'.seen known j.seen) h.seen);
  }

  pub closed : {T : Type 0} (cell : CellView T) (all : PassView E) (passes : List (PassView E)) (list : List E) →
      IsGathered cell all passes → entries all.made ≡ list → IsPrefix all.seen list → IsClosed list passes
  closed cell all passes list h made seen = record {
    made = subst (λ l. IsShuffle l (parts_of passes)) made h.made;
    seen = all_imp (λ (q : PassView E). IsPrefix q.seen all.seen) (λ (q : PassView E). IsPrefix q.seen list) passes
        (λ q known. prefix_trans q.seen all.seen list known seen) h.seen;
  }

-- the last of those left goes to the front of those gathered
pub one_more : {X : Type 0} (all left less rest : List X) (x : X) → all ≡ left ++ rest → left ≡ less ++ x ∷ [] →
    all ≡ less ++ x ∷ rest
one_more all left less rest x e f = e ∙ ap (λ l. l ++ rest) f ∙ append_assoc less (x ∷ []) rest
