-- Passes that are cut and joined.
use Rattle.std.proofs.Common.{◌≡◌, ℕ, ◌+◌, ◌≤◌, List, [], ◌∷◌, ◌++◌, length, refl, sym, ap, ◌∙◌, subst, arith}
use Rattle.atomic_table.specs.Table.{Me}
use Rattle.atomic_table.specs.Seated.{TableId}
use Rattle.hub_cell.specs.declared.rule.View.{View}
use Rattle.hub_cell.specs.declared.rule.Stage.TheVariants.{Idle}
use Rattle.hub_cell.specs.Lists.{IsPrefix, AllBegin, longer, entries, merged, Weaves}
use Rattle.hub_cell.specs.Lock.{view, IsTold, joined_views}
use Rattle.hub_cell.specs.Passes.{PassView, IsInOrder, AreBelow, the_view, pass_view, IsResting, IsJoined}
use Rattle.hub_cell.proofs.Orders.{merged_in_order, merged_below, below_later, length-longer, weaves_map}
use Rattle.hub_cell.proofs.Orders.{weaves_merged}

module _ {E : Type 0} where
  pub seat_idle : (views : List (View E)) (spare : ℕ) (v : View E) → IsResting views spare → views ≡ v ∷ [] →
      v.stage ≡ Idle
  seat_idle views spare v rests is = ap (λ (u : View E). u.stage) (sym (ap the_view is)) ∙ rests.idle

  pub seat_spare : (views : List (View E)) (spare : ℕ) (v : View E) → IsResting views spare → views ≡ v ∷ [] →
      v.seats ≡ spare + 1
  seat_spare views spare v rests is = ap (λ (u : View E). u.seats) (sym (ap the_view is)) ∙ rests.seats

  -- of two beginnings of one list the shorter begins the longer
  pub prefix_shorter : (xs ys all : List E) → IsPrefix xs all → IsPrefix ys all → length xs ≤ length ys → IsPrefix xs ys
  prefix_shorter [] ys all p q le = (ys, refl)
  prefix_shorter (x ∷ xs) [] all p q le = absurd (omega arith)
  prefix_shorter (x ∷ xs) (y ∷ ys) all p q le =
      let same : x ∷ (xs ++ p.0) ≡ y ∷ (ys ++ q.0) = sym p.1 ∙ q.1 in
      let first : x ≡ y = cc in
      let rest : xs ++ p.0 ≡ ys ++ q.0 = cc in
      let again = prefix_shorter xs ys (xs ++ p.0) (p.0, refl) (q.0, rest) (omega arith) in
      (again.0, (λ i. sym first i ∷ again.1 i))

module _ {T E : Type 0} (views others views' : List (View E)) (spare spare' : ℕ) (mine : IsResting views spare)
    (theirs : IsResting others spare') (m m' : Me T (View E)) (v w : View E)
    (is : views ≡ v ∷ []) (is' : others ≡ w ∷ []) (now : m.0 ≡ joined_views v w) (said : IsTold m m')
    (then : views' ≡ m'.0 ∷ []) where
  order : IsInOrder v.made
  order = subst (λ (u : View E). IsInOrder u.made) (ap the_view is) mine.in_order

  order' : IsInOrder w.made
  order' = subst (λ (u : View E). IsInOrder u.made) (ap the_view is') theirs.in_order

  below : AreBelow (length v.seen) v.made
  below = subst (λ (u : View E). AreBelow (length u.seen) u.made) (ap the_view is) mine.below

  below' : AreBelow (length w.seen) w.made
  below' = subst (λ (u : View E). AreBelow (length u.seen) u.made) (ap the_view is') theirs.below

  end_view : the_view views' ≡ view (longer v.seen w.seen) (merged w.made v.made) (v.seats + w.seats) v.stage
  end_view = ap the_view then ∙ said.1 ∙ ap (λ (u : View E). view u.seen u.made u.seats u.stage) now

  pub joined_rests : IsResting views' (spare + (spare' + 1))
  joined_rests =
      let far = length-longer v.seen w.seen in
      let made = merged w.made v.made in
      let seats : v.seats + w.seats ≡ spare + (spare' + 1) + 1 = (let a = seat_spare views spare v mine is in
      let b = seat_spare others spare' w theirs is' in omega arith) in
      record {
        one = then ∙ ap (λ u. u ∷ []) (sym (ap the_view then));
        idle = ap (λ (u : View E). u.stage) end_view ∙ seat_idle views spare v mine is;
        seats = ap (λ (u : View E). u.seats) end_view ∙ seats;
        heard = ap (λ (u : View E). u.heard) end_view;
        in_order = subst (λ (u : View E). IsInOrder u.made) (sym end_view) (merged_in_order w.made v.made order);
        below = subst (λ (u : View E). AreBelow (length u.seen) u.made) (sym end_view)
            (merged_below (length (longer v.seen w.seen)) w.made v.made (below_later (length w.seen) _ w.made far.1
            below') (below_later (length v.seen) _ v.made far.0 below));
      }

  joined_with : (id id' id'' : TableId) → id'' ≡ id → IsJoined (pass_view id views spare) (pass_view id' others spare')
      (pass_view id'' views' (spare + (spare' + 1)))
  joined_with id id' id'' same =
      let v0 = ap the_view is in
      let w0 = ap the_view is' in
      let far = length-longer v.seen w.seen in
      let all = subst (λ (u : View E). (all : List E) × IsPrefix u.seen all × AllBegin u.heard all) now said.3 in
      let known : IsPrefix v.seen (longer v.seen w.seen) = prefix_shorter v.seen (longer v.seen w.seen) all.0 all.2.0
      all.1 far.0 in
      let known' : IsPrefix w.seen (longer v.seen w.seen) = prefix_shorter w.seen (longer v.seen w.seen) all.0 all.2.1.0
      all.1 far.1 in
      record {
        pass_is =
            (λ i. record {
              cell = same i;
              seen = (end_view i).seen;
              made = (end_view i).made;
              spare = (let e : spare + (spare' + 1) ≡ spare + spare' + 1 = omega arith in e) i;
            })
            ∙ (λ i. record {
              cell = id;
              seen = longer (sym v0 i).seen (sym w0 i).seen;
              made = merged (sym w0 i).made
                  (sym v0 i).made;
              spare = spare + spare' + 1;
            });
        seen = subst (λ (u : View E). IsPrefix u.seen (the_view views').seen) (sym v0)
            (subst (λ (u : View E). IsPrefix v.seen u.seen) (sym end_view) known);
        seen_too = subst (λ (u : View E). IsPrefix u.seen (the_view views').seen) (sym w0)
            (subst (λ (u : View E). IsPrefix w.seen u.seen) (sym end_view) known');
        woven = subst (λ (u : View E). Weaves (entries (the_view views').made) (entries (the_view others).made)
            (entries u.made)) (sym v0)
            (subst (λ (u : View E). Weaves (entries (the_view views').made) (entries u.made) (entries v.made)) (sym w0)
            (subst (λ (u : View E). Weaves (entries u.made) (entries w.made) (entries v.made)) (sym end_view)
            (weaves_map (λ (x : ℕ × E). x.1) (merged w.made v.made) w.made v.made (weaves_merged w.made v.made
            order'))));
      }

  pub joined : (id id' id'' : TableId) (p q : PassView E) → id'' ≡ id → pass_view id views spare ≡ p →
      pass_view id' others spare' ≡ q → IsJoined p q (pass_view id'' views' (spare + (spare' + 1)))
  joined id id' id'' p q same is_p is_q =
      subst (λ (p : PassView E). IsJoined p q (pass_view id'' views' (spare + (spare' + 1)))) is_p
      (subst (λ (q : PassView E). IsJoined (pass_view id views spare) q (pass_view id'' views' (spare + (spare' + 1))))
      is_q (joined_with id id' id'' same))
