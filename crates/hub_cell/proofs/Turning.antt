-- A whole turn, from what its parts say.
use Rattle.std.proofs.Common.{◌≡◌, ℕ, ◌+◌, ◌≤◌, List, [], ◌∷◌, ◌++◌, length, drop, get_or, sym, ap, ◌∙◌, subst, arith}
use Rattle.std.proofs.Common.{length-append}
use Rattle.std.proofs.Math.Seq.{drop-append_seam}
use Rattle.atomic_table.specs.Table.{Me}
use Rattle.atomic_table.specs.Seated.{TableId}
use Rattle.hub_cell.specs.declared.rule.View.{View}
use Rattle.hub_cell.specs.declared.rule.Stage.TheVariants.{Idle}
use Rattle.hub_cell.specs.Lists.{IsPrefix, numbered}
use Rattle.hub_cell.specs.Lock.{view, held_list, HasTaken, HasWorked, HasGiven}
use Rattle.hub_cell.specs.Passes.{PassView, IsInOrder, AreBelow, the_view, pass_view, IsResting, IsTurn}
use Rattle.hub_cell.proofs.Orders.{in_order_more, below_later, below_more}

module _ {T E W : Type 0} (list : T → List E) (fit : T → Type 0) (does : W → T → W → T → Type 0)
    (m0 m1 m2 m3 : Me T (View E)) (work work' : W) (more : ℕ)
    (taken : HasTaken list fit m0 m1) (worked : HasWorked list fit does m1 m2 work work' more)
    (given : HasGiven list m2 m3) where
  same_value : taken.value ≡ worked.before
  same_value = ap (λ (l : List (ℕ × T)). (get_or l 0 (0, taken.value)).1) (sym taken.held ∙ worked.was)

  known : IsPrefix m0.0.seen (list worked.before)
  known = (taken.seen.0, sym (ap list same_value) ∙ taken.seen.1)

  end_view : m3.0 ≡ view (list worked.after) (m0.0.made ++ numbered (length (list worked.before)) worked.added)
      m0.0.seats Idle
  end_view =
      let after : List E = list worked.after in
      let step : View E → List E → View E = λ v now. view now (v.made ++ numbered (length v.seen)
      (drop (length v.seen) now)) v.seats Idle in
      let behind : drop (length (list worked.before)) after ≡ worked.added = ap (drop (length (list worked.before)))
      worked.grown ∙ drop-append_seam (list worked.before) worked.added in
      given.view_is
      ∙ ap (λ (m : Me T (View E)). step m.0 (held_list list m.1)) worked.held
      ∙ ap (λ v. step v after) taken.view_is
      ∙ (λ i. view after (m0.0.made ++ numbered (length (list (same_value i))) (drop (length (list (same_value i)))
      after)) m0.0.seats Idle)
      ∙ ap (λ es. view after (m0.0.made ++ numbered (length (list worked.before)) es) m0.0.seats Idle) behind

  pub rests_again : (views views' : List (View E)) (spare : ℕ) → IsResting views spare → views ≡ m0.0 ∷ [] →
      views' ≡ m3.0 ∷ [] → IsResting views' spare
  rests_again views views' spare old is is' =
      let v0 : the_view views ≡ m0.0 = ap the_view is in
      let v3 : the_view views' ≡ view (list worked.after) (m0.0.made ++ numbered (length (list worked.before))
      worked.added) m0.0.seats Idle = ap the_view is' ∙ end_view in
      let bound : length m0.0.seen ≤ length (list worked.before) = (let a = ap length known.1 in
      let b = length-append m0.0.seen known.0 in omega arith) in
      let below : AreBelow (length (list worked.before)) m0.0.made = below_later (length m0.0.seen)
      (length (list worked.before)) m0.0.made bound (subst (λ (v : View E). AreBelow (length v.seen) v.made) v0
      old.below) in
      let order : IsInOrder m0.0.made = subst (λ (v : View E). IsInOrder v.made) v0 old.in_order in
      let whole : length (list worked.before) + length worked.added ≡ length (list worked.after) =
      sym (ap length worked.grown ∙ length-append (list worked.before) worked.added) in
      record {
        one = is' ∙ ap (λ v. v ∷ []) (sym (ap the_view is'));
        idle = ap (λ v. v.stage) v3;
        seats = ap (λ (v : View E). v.seats) v3 ∙ ap (λ (v : View E). v.seats) (sym v0) ∙ old.seats;
        heard = ap (λ (v : View E). v.heard) v3;
        in_order = subst (λ (v : View E). IsInOrder v.made) (sym v3)
            (in_order_more m0.0.made (length (list worked.before)) worked.added order below);
        below = subst (λ (v : View E). AreBelow (length v.seen) v.made) (sym v3)
            (subst (λ n. AreBelow n (m0.0.made ++ numbered (length (list worked.before)) worked.added)) whole
            (below_more m0.0.made (length (list worked.before)) worked.added below));
      }

  pub turned : (id id' : TableId) (views views' : List (View E)) (n : ℕ) (p : PassView E) → pass_view id views n ≡ p →
      views ≡ m0.0 ∷ [] → views' ≡ m3.0 ∷ [] → id' ≡ p.cell → IsTurn list fit does p (pass_view id' views' n) work work'
  turned id id' views views' n p view_is is is' same =
      let v0 : the_view views ≡ m0.0 = ap the_view is in
      let v3 : the_view views' ≡ view (list worked.after) (m0.0.made ++ numbered (length (list worked.before))
      worked.added) m0.0.seats Idle = ap the_view is' ∙ end_view in
      let seen : m0.0.seen ≡ p.seen = ap (λ (v : View E). v.seen) (sym v0) ∙ ap (λ q. q.seen) view_is in
      let made : m0.0.made ≡ p.made = ap (λ (v : View E). v.made) (sym v0) ∙ ap (λ q. q.made) view_is in
      let spare : n ≡ p.spare = ap (λ q. q.spare) view_is in
      record {
        before = worked.before;
        after = worked.after;
        added = worked.added;
        known = subst (λ l. IsPrefix l (list worked.before)) seen known;
        fits = (let a = subst fit same_value taken.fits in (a, worked.fits a));
        done = worked.done;
        grown = worked.grown;
        few = worked.few;
        pass_is =
            (λ i. record { cell = same i; seen = (v3 i).seen; made = (v3 i).made; spare = n })
            ∙ (λ i. record {
              cell = p.cell;
              seen = list worked.after;
              made = made i ++
                  numbered (length (list worked.before)) worked.added;
              spare = spare i;
            });
      }
