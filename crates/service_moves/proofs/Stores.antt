-- Stores of servers, one by one.
use Rattle.std.proofs.Common.{◌≡◌, ◌≢◌, ◌≤◌, ◌<◌, ◌⊎◌, ℕ, zero, suc, ◌+◌, List, [], ◌∷◌, length, map, set, get_or, inl, inr, refl, sym, subst, ◌∙◌, ap, arith}
use Rattle.std.specs.Prelude.{slice_get, Some, Result, Ok, Err, OnOk, IfErr}
use Rattle.base_types.specs.Faults.{RoseBy}
use Rattle.base_types.specs.declared.ids.ServerId.{ServerId}
use Rattle.tree_calls.specs.declared.roster.Roster.{Roster}
use Rattle.store_memory.specs.Views.{View, IsSameStore}
use Rattle.service_moves.specs.Steps.{AllGoOn, GoesOn, Lasts, StopsAmong, StopsAt}
use Rattle.service_moves.specs.Stopping.{HasFailed, IsStopped}
use Rattle.service_moves.specs.Stores.{AreSame, AreStores, IsStore}
use Rattle.service_moves.specs.declared.stopped.RunStopped.{RunStopped}
use Rattle.service_moves.specs.declared.stopped.RunStopped.TheVariants.{Failed, Unfit, Memory}

-- what is there in a list

pub is_there : {A : Type 0} (xs : List A) (k : ℕ) → k < length xs → (x : A) × (slice_get xs k ≡ Some x)
is_there [] k h = absurd (omega (arith, h))
is_there (x ∷ xs) zero h = (x, refl)
is_there (x ∷ xs) (suc k) h = is_there xs k (omega (arith, h))

pub there_within : {A : Type 0} (xs : List A) (k : ℕ) (x : A) → slice_get xs k ≡ Some x → k < length xs
there_within [] k x e = absurd (cc)
there_within (y ∷ xs) zero x e = omega arith
there_within (y ∷ xs) (suc k) x e = let h = there_within xs k x e in omega (arith, h)

pub there_or : {A : Type 0} (xs : List A) (k : ℕ) (x : A) → k < length xs → x ≡ get_or xs k x → slice_get xs k ≡ Some x
there_or [] k x h e = absurd (omega (arith, h))
there_or (y ∷ xs) zero x h e = ap (λ z. Some z) (sym e)
there_or (y ∷ xs) (suc k) x h e = there_or xs k x (omega (arith, h)) e

pub get_there : {A : Type 0} (xs : List A) (k : ℕ) (d : A) → k < length xs → slice_get xs k ≡ Some (get_or xs k d)
get_there [] k d h = absurd (omega (arith, h))
get_there (y ∷ xs) zero d h = refl
get_there (y ∷ xs) (suc k) d h = get_there xs k d (omega (arith, h))

pub map_there : {A B : Type 0} (f : A → B) (xs : List A) (k : ℕ) (x : A) → slice_get xs k ≡ Some x → slice_get (map f xs) k ≡ Some (f x)
map_there f [] k x e = absurd (cc)
map_there f (y ∷ xs) zero x e = let same : y ≡ x = cc in ap (λ z. Some (f z)) same
map_there f (y ∷ xs) (suc k) x e = map_there f xs k x e

pub map_before : {A B : Type 0} (f : A → B) (xs : List A) (k : ℕ) (y : B) → slice_get (map f xs) k ≡ Some y → (x : A) × (slice_get xs k ≡ Some x) × (f x ≡ y)
map_before f [] k y e = absurd (cc)
map_before f (x ∷ xs) zero y e = (x, refl, (cc))
map_before f (x ∷ xs) (suc k) y e = map_before f xs k y e

pub map_length : {A B : Type 0} (f : A → B) (xs : List A) → length (map f xs) ≡ length xs
map_length f [] = refl
map_length f (x ∷ xs) = ap (λ n. suc n) (map_length f xs)

pub set_length : {A : Type 0} (xs : List A) (k : ℕ) (x : A) → length (set xs k x) ≡ length xs
set_length [] k x = refl
set_length (y ∷ xs) zero x = refl
set_length (y ∷ xs) (suc k) x = ap (λ n. suc n) (set_length xs k x)

pub set_there : {A : Type 0} (xs : List A) (k : ℕ) (x : A) → k < length xs → slice_get (set xs k x) k ≡ Some x
set_there [] k x h = absurd (omega (arith, h))
set_there (y ∷ xs) zero x h = refl
set_there (y ∷ xs) (suc k) x h = set_there xs k x (omega (arith, h))

pub set_beside : {A : Type 0} (xs : List A) (k j : ℕ) (x : A) → j ≢ k → slice_get (set xs k x) j ≡ slice_get xs j
set_beside [] k j x h = refl
set_beside (y ∷ xs) zero zero x h = absurd (h refl)
set_beside (y ∷ xs) zero (suc j) x h = refl
set_beside (y ∷ xs) (suc k) zero x h = refl
set_beside (y ∷ xs) (suc k) (suc j) x h = set_beside xs k j x (λ e. h (ap (λ n. suc n) e))

pub map_set : {A B : Type 0} (f : A → B) (xs : List A) (k : ℕ) (x : A) → map f (set xs k x) ≡ set (map f xs) k (f x)
map_set f [] k x = refl
map_set f (y ∷ xs) zero x = refl
map_set f (y ∷ xs) (suc k) x = ap (λ ys. f y ∷ ys) (map_set f xs k x)

pub either_place : (j k : ℕ) → (j ≡ k) ⊎ (j ≢ k)
either_place zero zero = inl refl
either_place zero (suc k) = inr (λ e. omega (arith, e))
either_place (suc j) zero = inr (λ e. omega (arith, e))
either_place (suc j) (suc k) = by (either_place j k)
  where
    by : (j ≡ k) ⊎ (j ≢ k) → (suc j ≡ suc k) ⊎ (suc j ≢ suc k)
    by (inl e) = inl (ap (λ n. suc n) e)
    by (inr h) = inr (λ e. h (omega (arith, e)))

-- the stores of servers are each the store of its server

pub stores_at : {S : Type 0} (view : S → View) (roster : Roster) (worn number : ℕ) (stores : List S) → AreStores view roster worn number stores
    → (k : ℕ) (store : S) → slice_get stores k ≡ Some store → IsStore roster worn (number + k) (view store)
stores_at view roster worn number [] are k store e = absurd (cc)
stores_at view roster worn number (first ∷ stores) are zero store e =
    let same : first ≡ store = cc in
    let n : number ≡ number + zero = omega arith in
    subst (λ m. IsStore roster worn m (view store)) n (subst (λ s. IsStore roster worn number (view s)) same are.0)
stores_at view roster worn number (first ∷ stores) are (suc k) store e =
    let n : (number + 1) + k ≡ number + suc k = omega arith in
    subst (λ m. IsStore roster worn m (view store)) n (stores_at view roster worn (number + 1) stores are.1 k store e)

pub stores_of : {S : Type 0} (view : S → View) (roster : Roster) (worn number : ℕ) (stores : List S)
    → ((k : ℕ) (store : S) → slice_get stores k ≡ Some store → IsStore roster worn (number + k) (view store)) → AreStores view roster worn number stores
stores_of view roster worn number [] h = tt
stores_of view roster worn number (first ∷ stores) h =
    let n : number + zero ≡ number = omega arith in (
      subst (λ m. IsStore roster worn m (view first)) n (h zero first refl),
      stores_of view roster worn (number + 1) stores (λ k store e. let m : number + suc k ≡ (number + 1) + k = omega arith in subst (λ m. IsStore roster worn m (view store)) m (h (suc k) store e)),
    )

pub same_of : {S : Type 0} (view : S → View) (olds news : List S) → length news ≡ length olds
    → ((k : ℕ) (a b : S) → slice_get olds k ≡ Some a → slice_get news k ≡ Some b → IsSameStore (view a) (view b) × (view b).mendable × ((view a).faults ≤ (view b).faults)) → AreSame view olds news
same_of view [] [] count h = tt
same_of view [] (new ∷ news) count h = absurd (omega (arith, count))
same_of view (old ∷ olds) [] count h = absurd (omega (arith, count))
same_of view (old ∷ olds) (new ∷ news) count h =
    let one = h zero old new refl refl in
    (one.0, one.1, one.2, same_of view olds news (omega (arith, count)) (λ k a b x y. h (suc k) a b x y))

-- what steps leave of stores

pub on_ok_then : {T E : Type 0} (result : Result T E) (P Q : Type 0) → (P → Q) → OnOk result P → OnOk result Q
on_ok_then (Ok value) P Q f p = f p
on_ok_then (Err error) P Q f p = tt

pub if_err_then : {T E : Type 0} (result : Result T E) (P Q : E → Type 0) → ((error : E) → P error → Q error) → IfErr result P → IfErr result Q
if_err_then (Ok value) P Q f p = tt
if_err_then (Err error) P Q f p = f error p

pub on_ok : {T E : Type 0} (result : Result T E) (P : Type 0) → P → OnOk result P
on_ok (Ok value) P p = p
on_ok (Err error) P p = tt

-- a store that stays as it is
pub goes_still : {T : Type 0} (result : Result T RunStopped) (worn : ℕ) (view : View) → view.mendable → GoesOn worn result view view
goes_still result worn view m = record {
  lasts = record { same = record { server = refl; roster = refl }; mendable = m; counted = omega arith; wear = omega arith };
  ready = on_ok result (view.ready → view.ready) (λ r. r);
}

pub lasts_none : (view : View) → view.mendable → Lasts 0 view view
lasts_none view m = record { same = record { server = refl; roster = refl }; mendable = m; counted = omega arith; wear = omega arith }

pub lasts_then : (m n : ℕ) (a b c : View) → Lasts m a b → Lasts n b c → Lasts (m + n) a c
lasts_then m n a b c x y = record {
  same = record { server = y.same.server ∙ x.same.server; roster = y.same.roster ∙ x.same.roster };
  mendable = y.mendable;
  counted = (let p = x.counted in let q = y.counted in omega (arith, p, q));
  wear = (let p = x.wear in let q = y.wear in omega (arith, p, q));
}

pub lasts_more : (m n : ℕ) (a b : View) → m ≤ n → Lasts m a b → Lasts n a b
lasts_more m n a b h x = record { same = x.same; mendable = x.mendable; counted = x.counted; wear = (let p = x.wear in omega (arith, p, h)) }

pub goes_then : {T U : Type 0} (first : Result T RunStopped) (result : Result U RunStopped) (m n worn : ℕ) (a b c : View) → m + n ≤ worn → OnOk first (a.ready → b.ready) → Lasts m a b
    → (OnOk result (a.ready → b.ready)) → GoesOn n result b c → GoesOn worn result a c
goes_then first result m n worn a b c h r x s y = record { lasts = lasts_more (m + n) worn a c h (lasts_then m n a b c x y.lasts); ready = by result s y.ready }
  where
    by : {U : Type 0} (result : Result U RunStopped) → OnOk result (a.ready → b.ready) → OnOk result (b.ready → c.ready) → OnOk result (a.ready → c.ready)
    by (Ok value) p q = λ k. q (p k)
    by (Err error) p q = tt

pub rose_before : (n a b c : ℕ) → a ≤ b → RoseBy n b c → RoseBy n a c
rose_before n a b c h r = omega (arith, h, r)

-- it stopped at a later step
pub stops_then : (server : ServerId) (a b c : View) (stopped : RunStopped) → a.faults ≤ b.faults → StopsAt server b c stopped → StopsAt server a c stopped
stops_then server a b c (Failed failed) h s = (s.0, rose_before 2 a.faults b.faults c.faults h s.1, s.2)
stops_then server a b c (Unfit disk slot) h s = s
stops_then server a b c Memory h s = s

-- or at an earlier one
pub stops_on : (server : ServerId) (a b : View) (stopped : RunStopped) → StopsAt server a b stopped → StopsAt server a b stopped
stops_on server a b stopped s = s

module _ {S : Type 0} (view : S → View) where
  pub all_mendable : (roster : Roster) (worn : ℕ) (stores : List S) → AreStores view roster worn 1 stores → (k : ℕ) (store : S) → slice_get stores k ≡ Some store → (view store).mendable
  all_mendable roster worn stores are k store e = (stores_at view roster worn 1 stores are k store e).mendable

  -- why one of them stopped the run
  pub stops_among : (old new : List S) (server : ServerId) (k : ℕ) (before after : S) (stopped : RunStopped) → server.0 ≡ k + 1 → slice_get old k ≡ Some before → slice_get new k ≡ Some after
      → StopsAt server (view before) (view after) stopped → StopsAmong view old new stopped
  stops_among old new server k before after (Failed failed) n was is s =
      record { k = k; numbered = ap (λ (x : ServerId). x.0) s.0 ∙ n; before = before; after = after; was = was; is = is; twice = s.1; last = s.2 }
  stops_among old new server k before after (Unfit disk slot) n was is s = s
  stops_among old new server k before after Memory n was is s = tt

  -- one store is another one then
  pub one_goes : {T : Type 0} (worn : ℕ) (result : Result T RunStopped) (old : List S) (k : ℕ) (before after : S) → ((j : ℕ) (store : S) → slice_get old j ≡ Some store → (view store).mendable)
      → slice_get old k ≡ Some before → GoesOn worn result (view before) (view after) → IfErr result (StopsAmong view old (set old k after)) → AllGoOn view worn result old (set old k after)
  one_goes worn result old k before after mend was goes stopped = record {
    count = set_length old k after;
    each = λ j a b x y. by j a b x y (either_place j k);
    stopped = stopped;
  }
    where
      by : (j : ℕ) (a b : S) → slice_get old j ≡ Some a → slice_get (set old k after) j ≡ Some b → (j ≡ k) ⊎ (j ≢ k) → GoesOn worn result (view a) (view b)
      by j a b x y (inl e) =
          let one : Some before ≡ Some a = sym was ∙ ap (slice_get old) (sym e) ∙ x in
          let two : Some after ≡ Some b = sym (set_there old k after (there_within old k before was)) ∙ ap (slice_get (set old k after)) (sym e) ∙ y in
          let p : before ≡ a = cc in
          let q : after ≡ b = cc in
          subst (λ s. GoesOn worn result (view s) (view b)) p (subst (λ s. GoesOn worn result (view before) (view s)) q goes)
      by j a b x y (inr h) =
          let two : Some a ≡ Some b = sym x ∙ sym (set_beside old k j after h) ∙ y in
          let q : a ≡ b = cc in
          subst (λ s. GoesOn worn result (view a) (view s)) q (goes_still result worn (view a) (mend j a x))

  -- two are
  pub two_go : {T : Type 0} (worn : ℕ) (result : Result T RunStopped) (old : List S) (f t : ℕ) (first second sent taken : S) → f ≢ t
      → ((j : ℕ) (store : S) → slice_get old j ≡ Some store → (view store).mendable) → slice_get old f ≡ Some first → slice_get old t ≡ Some second
      → GoesOn worn result (view first) (view sent) → GoesOn worn result (view second) (view taken)
      → IfErr result (StopsAmong view old (set (set old f sent) t taken)) → AllGoOn view worn result old (set (set old f sent) t taken)
  two_go worn result old f t first second sent taken apart mend was has one two stopped = record {
    count = set_length (set old f sent) t taken ∙ set_length old f sent;
    each = λ j a b x y. by j a b x y (either_place j f) (either_place j t);
    stopped = stopped;
  }
    where
      news : List S
      news = set (set old f sent) t taken

      by : (j : ℕ) (a b : S) → slice_get old j ≡ Some a → slice_get news j ≡ Some b → (j ≡ f) ⊎ (j ≢ f) → (j ≡ t) ⊎ (j ≢ t) → GoesOn worn result (view a) (view b)
      by j a b x y c (inl e) =
          let within : t < length (set old f sent) = (let w = there_within old t second has in let l = set_length old f sent in omega (arith, w, l)) in
          let u : Some second ≡ Some a = sym has ∙ ap (slice_get old) (sym e) ∙ x in
          let v : Some taken ≡ Some b = sym (set_there (set old f sent) t taken within) ∙ ap (slice_get news) (sym e) ∙ y in
          let p : second ≡ a = cc in
          let q : taken ≡ b = cc in
          subst (λ s. GoesOn worn result (view s) (view b)) p (subst (λ s. GoesOn worn result (view second) (view s)) q two)
      by j a b x y (inl e) (inr h) =
          let u : Some first ≡ Some a = sym was ∙ ap (slice_get old) (sym e) ∙ x in
          let v : Some sent ≡ Some b =
          sym (set_there old f sent (there_within old f first was)) ∙ ap (slice_get (set old f sent)) (sym e) ∙ sym (set_beside (set old f sent) t j taken h) ∙ y in
          let p : first ≡ a = cc in
          let q : sent ≡ b = cc in
          subst (λ s. GoesOn worn result (view s) (view b)) p (subst (λ s. GoesOn worn result (view first) (view s)) q one)
      by j a b x y (inr h) (inr k) =
          let v : Some a ≡ Some b = sym x ∙ sym (set_beside old f j sent h) ∙ sym (set_beside (set old f sent) t j taken k) ∙ y in
          let q : a ≡ b = cc in
          subst (λ s. GoesOn worn result (view a) (view s)) q (goes_still result worn (view a) (mend j a x))

  -- none is
  pub none_goes : {T : Type 0} (worn : ℕ) (value : T) (old : List S) → ((j : ℕ) (store : S) → slice_get old j ≡ Some store → (view store).mendable)
      → AllGoOn view worn (Ok value) old old
  none_goes worn value old mend = record {
    count = refl;
    each = λ j a b x y. (let e : Some a ≡ Some b = sym x ∙ y in let q : a ≡ b = cc in subst (λ s. GoesOn worn (Ok value) (view a) (view s)) q (goes_still (Ok value) worn (view a) (mend j a x)));
    stopped = tt;
  }

  pub none_fails : {T : Type 0} (worn : ℕ) (old : List S) → ((j : ℕ) (store : S) → slice_get old j ≡ Some store → (view store).mendable) → AllGoOn {T = T} view worn (Err Memory) old old
  none_fails {T} worn old mend = record {
    count = refl;
    each = λ j a b x y. (let e : Some a ≡ Some b = sym x ∙ y in let q : a ≡ b = cc in subst (λ s. GoesOn {T = T} worn (Err Memory) (view a) (view s)) q (goes_still {T = T} (Err Memory) worn (view a) (mend j a x)));
    stopped = tt;
  }

  -- so much more
  pub all_more : {T : Type 0} (m n : ℕ) (result : Result T RunStopped) (old new : List S) → m ≤ n → AllGoOn view m result old new → AllGoOn view n result old new
  all_more m n result old new h g = record {
    count = g.count;
    each = λ j a b x y. record { lasts = lasts_more m n (view a) (view b) h (g.each j a b x y).lasts; ready = (g.each j a b x y).ready };
    stopped = g.stopped;
  }

  -- a step after another one
  pub all_then : {T U : Type 0} (value : T) (m n worn : ℕ) (result : Result U RunStopped) (a b c : List S) → m + n ≤ worn → AllGoOn view m (Ok value) a b → AllGoOn view n result b c
      → AllGoOn view worn result a c
  all_then value m n worn result a b c h x y = record {
    count = y.count ∙ x.count;
    each = λ j before after p q. by j before after p q (is_there b j (let w = there_within a j before p in let l = x.count in omega (arith, w, l)));
    stopped = later result y.stopped;
  }
    where
      by : (j : ℕ) (before after : S) → slice_get a j ≡ Some before → slice_get c j ≡ Some after → (mid : S) × (slice_get b j ≡ Some mid) → GoesOn worn result (view before) (view after)
      by j before after p q (mid, e) =
          let one = x.each j before mid p e in
          goes_then (Ok value) result m n worn (view before) (view mid) (view after) h one.ready one.lasts (on_ok result _ one.ready) (y.each j mid after e q)

      among : (stopped : RunStopped) → StopsAmong view b c stopped → StopsAmong view a c stopped
      among (Failed server) s = failed (is_there a s.k (let w = there_within b s.k s.before s.was in let l = x.count in omega (arith, w, l)))
        where
          failed : (before : S) × (slice_get a s.k ≡ Some before) → HasFailed view a c server.0
          failed (before, e) = record {
            k = s.k;
            numbered = s.numbered;
            before = before;
            after = s.after;
            was = e;
            is = s.is;
            twice = rose_before 2 (view before).faults (view s.before).faults (view s.after).faults (x.each s.k before s.before e s.was).lasts.counted s.twice;
            last = s.last;
          }
      among (Unfit disk slot) s = s
      among Memory s = s

      later : {U : Type 0} (result : Result U RunStopped) → IfErr result (StopsAmong view b c) → IfErr result (StopsAmong view a c)
      later (Ok value) s = s
      later (Err stopped) s = among stopped s

  -- a step that failed
  pub all_failed : {T U : Type 0} (m n : ℕ) (stopped : RunStopped) (old new : List S) → m ≤ n → AllGoOn {T = T} view m (Err stopped) old new → AllGoOn {T = U} view n (Err stopped) old new
  all_failed m n stopped old new h g = record {
    count = g.count;
    each = λ j a b x y. record { lasts = lasts_more m n (view a) (view b) h (g.each j a b x y).lasts; ready = tt };
    stopped = g.stopped;
  }

  -- one that didn't
  pub all_ok : {T U : Type 0} (m n : ℕ) (value : T) (other : U) (old new : List S) → m ≤ n → AllGoOn view m (Ok value) old new → AllGoOn view n (Ok other) old new
  all_ok m n value other old new h g = record {
    count = g.count;
    each = λ j a b x y. record { lasts = lasts_more m n (view a) (view b) h (g.each j a b x y).lasts; ready = (g.each j a b x y).ready };
    stopped = tt;
  }

  -- what the top calls promise of it
  pub goes_same : {T : Type 0} (worn : ℕ) (result : Result T RunStopped) (old new : List S) → AllGoOn view worn result old new → AreSame view old new
  goes_same worn result old new g = same_of view old new g.count (λ k a b x y. let l = (g.each k a b x y).lasts in (l.same, l.mendable, l.counted))

  pub goes_stores : {T : Type 0} (value : T) (more worn : ℕ) (roster : Roster) (old new : List S) → AllGoOn view more (Ok value) old new → AreStores view roster worn 1 old
      → AreStores view roster (worn + more) 1 new
  goes_stores value more worn roster old new g are =
      stores_of view roster (worn + more) 1 new (λ k store e. by k store e (is_there old k (let w = there_within new k store e in let l = g.count in omega (arith, w, l))))
    where
      by : (k : ℕ) (store : S) → slice_get new k ≡ Some store → (before : S) × (slice_get old k ≡ Some before) → IsStore roster (worn + more) (1 + k) (view store)
      by k store e (before, was) =
          let one = stores_at view roster worn 1 old are k before was in
          let goes = g.each k before store was e in
          record {
            server = goes.lasts.same.server ∙ one.server;
            roster_is = goes.lasts.same.roster ∙ one.roster_is;
            ready = goes.ready one.ready;
            mendable = goes.lasts.mendable;
            wear = (let p = goes.lasts.wear in let q = one.wear in omega (arith, p, q));
          }

  pub goes_ok : {T : Type 0} (result : Result T RunStopped) (more most worn : ℕ) (roster : Roster) (old new : List S) → more ≤ most → AllGoOn view more result old new
      → AreStores view roster worn 1 old → OnOk result (AreStores view roster (worn + most) 1 new)
  goes_ok (Ok value) more most worn roster old new h g are = goes_stores value most worn roster old new (all_more more most (Ok value) old new h g) are
  goes_ok (Err stopped) more most worn roster old new h g are = tt

  pub goes_stopped : {T : Type 0} (tells : Type 0) (worn : ℕ) (result : Result T RunStopped) (old new : List S) → AllGoOn view worn result old new → IfErr result (IsStopped tells view [] old new)
  goes_stopped tells worn result old new g = by result g.stopped
    where
      one : (stopped : RunStopped) → StopsAmong view old new stopped → IsStopped tells view [] old new stopped
      one (Failed server) s = s
      one (Unfit disk slot) s = absurd s
      one Memory s = tt

      by : {T : Type 0} (result : Result T RunStopped) → IfErr result (StopsAmong view old new) → IfErr result (IsStopped tells view [] old new)
      by (Ok value) s = s
      by (Err stopped) s = one stopped s
