-- A host's own step keeps what is so of its bytes, of sizes, and of both; and what is so of the tree.
use Rattle.std.proofs.Common.{◌≡◌, ℕ, ◌<◌, ◌≤◌, ◌⊎◌, true, Option, Some, None, List, ◌∷◌, inl, inr, sym, ◌∙◌, ap, subst}
use Rattle.std.proofs.Common.{refl, arith}
use Rattle.std.specs.Prelude.{unwrap_or}
use Rattle.base_types.specs.declared.ids.HostId.{HostId}
use Rattle.base_types.specs.declared.ids.ServerId.{ServerId}
use Rattle.base_types.specs.declared.ids.Fid.{Fid}
use Rattle.message_types.specs.declared.giving.Give.{Give}
use Rattle.run_rules.specs.declared.step.Step.{Step}
use Rattle.run_rules.specs.Doings.{Doing, HasGoneAway, IsApplied}
use Rattle.run_rules.specs.Past.{In}
use Rattle.run_rules.specs.Tokens.{Made, number_of}
use Rattle.tree_laws.specs.Parts.{Part, Seen, Written, Cell, present}
use Rattle.tree_laws.specs.Parts.Part.{ByteAt, Size, Traits}
use Rattle.run_parts.specs.Cells.{by, value_of, written}
use Rattle.run_parts.specs.Deeds.{Deed, acts_in}
use Rattle.run_parts.specs.Contents.{Contents, site, kept, view, sees, dirty, OwnsUpdate, MadeSince, Clean, IsData}
use Rattle.run_parts.specs.Contents.{IsWritable}
use Rattle.run_parts.specs.Legal.{Cells}
use Rattle.run_parts.proofs.Cells.{option_cases, none_is, some_is, none_some, dirty_was, written_by}
use Rattle.run_parts.proofs.Cells.{kept_written, cases_host}
use Rattle.run_parts.proofs.Invariant.{Open, Shown, Treed, alone_there}
use Rattle.run_parts.proofs.OwnStep.{Own, same_cell, live, live_owner, foreign_writer, sees_at, sees_on}
use Rattle.run_parts.proofs.OwnStep.{cached', flight', mine', open_under', asked', asked_given', asked_for'}
use Rattle.run_parts.proofs.OwnStep.{not_applied, byte_was, gave_byte, gave_size, size_is, open_was, open_on, clean_none}
use Rattle.run_parts.proofs.OwnStep.{known_file}

module _ (c : Contents) (h : HostId) (v : ServerId) (A : List Step) (s : Step) (cells : Cells) (D : List Deed)
    (o : Own c h v A s cells D) where
  abbrev S : List Doing
  S = acts_in D

  abbrev new_cells : Cells
  new_cells f p = written h (c.wrote A s f p) (cells f p)

  same_unsaved : (p : Part) (f : Fid) → ((x : Seen p) → c.wrote A s f p ≡ Some x → ⊥)
      → (new_cells f p).unsaved ≡ (cells f p).unsaved
  same_unsaved p f never = ap (λ (z : Cell (Seen p)). z.unsaved) (sym (same_cell c h v A s cells D o p f never))

  dirty_is' : (q : ℕ) (f : Fid) → site f ≡ v → dirty c (s ∷ A) f q ≡ true → (HasGoneAway S h → ⊥)
      → (new_cells f (ByteAt q)).unsaved ≡ Some (by h (view c (s ∷ A) f (ByteAt q)))
  dirty_is' q f home d up =
      elim (option_cases (c.wrote A s f (ByteAt q))) [
        | inr x ↦ written_by h (c.wrote A s f (ByteAt q)) (cells f (ByteAt q)) x.0 (sees c A s f (ByteAt q)) x.1
        | inl n ↦ (
            let was : dirty c A f q ≡ true = dirty_was (c.wrote A s f (ByteAt q)) (dirty c A f q) (c.hands s f q) n d in
            let same : view c (s ∷ A) f (ByteAt q) ≡ view c A f (ByteAt q) =
            none_is (c.wrote A s f (ByteAt q)) (sees c A s f (ByteAt q)) n
            ∙ sees_on c h v A s cells D o (ByteAt q) f home (o.seen.dirty_owned q f was) up in
            same_unsaved (ByteAt q) f (λ x e. none_some (c.wrote A s f (ByteAt q)) x n e)
            ∙ (o.shown.dirty_is q f home was up ∙ ap (λ y. Some (by h y)) (sym same))
            )
      ]

  open_free' : (q : ℕ) (f : Fid) (x : ℕ) (g : Give) → site f ≡ v → Open c (s ∷ A) v S h f (ByteAt q) x g
      → OwnsUpdate (s ∷ A) f (ByteAt q) → ⊥
  open_free' q f x g home k u = go (open_was c h v A s cells D o (ByteAt q) f x g k)
    where
      go : In g s.made ⊎ Open c A v S h f (ByteAt q) x g → ⊥
      go (inl n) = o.rules.gives.gives_last g q x n k.has (subst (λ j. OwnsUpdate (s ∷ A) j (ByteAt q)) (sym k.file) u)
      go (inr b) =
          elim u.owned.0 [
            | inl taken ↦ (let t = o.may.takes u.token taken in
                t.1.2 (
                  g,
                  b.made,
                  b.file ∙ (sym u.file ∙ t.3),
                  λ known. b.not_applied (o.link.known (number_of g) (ap site b.file ∙ home) known),
                ))
            | inr w ↦ o.shown.open_free q f x g home b
                (record { token = u.token; owned = w; file = u.file; covers = u.covers; update = u.update })
          ]

  open_is' : (q : ℕ) (f : Fid) (x : ℕ) (g : Give) → site f ≡ v → Open c (s ∷ A) v S h f (ByteAt q) x g → (HasGoneAway S h → ⊥)
      → (new_cells f (ByteAt q)).unsaved ≡ Some (by h x)
  open_is' q f x g home k up = go (open_was c h v A s cells D o (ByteAt q) f x g k)
    where
      go : In g s.made ⊎ Open c A v S h f (ByteAt q) x g → (new_cells f (ByteAt q)).unsaved ≡ Some (by h x)
      go (inl n) = same_unsaved (ByteAt q) f (λ y w. o.rules.writes_only f q y x g w n k.file k.has)
          ∙ (o.shown.dirty_is q f home (subst (λ j. dirty c A j q ≡ true) k.file
          (o.rules.gives.gives_dirty g q x n k.has)) up
          ∙ ap (λ y. Some (by h y)) (byte_was c h v A s cells D o q f x g home up n k.file k.has))
      go (inr b) = same_unsaved (ByteAt q) f (λ y w. open_free' q f x g home k (o.rules.writes f (ByteAt q) y w))
          ∙ o.shown.open_is q f x g home b up

  open_once' : (q : ℕ) (f : Fid) (x y : ℕ) (g r : Give) → site f ≡ v → Open c (s ∷ A) v S h f (ByteAt q) x g
      → Open c (s ∷ A) v S h f (ByteAt q) y r → g ≡ r
  open_once' q f x y g r home k l =
      go (open_was c h v A s cells D o (ByteAt q) f x g k) (open_was c h v A s cells D o (ByteAt q) f y r l)
    where
      go : In g s.made ⊎ Open c A v S h f (ByteAt q) x g → In r s.made ⊎ Open c A v S h f (ByteAt q) y r → g ≡ r
      go (inl a) (inl b) = o.rules.gives.gives_once g r a b (k.file ∙ sym l.file)
      go (inl a) (inr b) = absurd (o.shown.open_free q f y r home b
          (gave_byte c h v A s cells D o q f x g a k.file k.has).0)
      go (inr a) (inl b) = absurd (o.shown.open_free q f x g home a
          (gave_byte c h v A s cells D o q f y r b l.file l.has).0)
      go (inr a) (inr b) = o.shown.open_once q f x y g r home a b

  -- the present length only grows, the kept one stays
  no_less : (f : Fid) (x : ℕ) → site f ≡ v → x ≤ present (cells f Size) → x ≤ present (new_cells f Size)
  no_less f x home le = go (c.wrote A s f Size) refl
    where
      go : (w : Option ℕ) → c.wrote A s f Size ≡ w → x ≤ present (written h w (cells f Size))
      go None e = le
      go (Some y) e =
          let u = o.rules.writes f Size y e in
          let here : sees c A s f Size ≡ present (cells f Size) =
          sees_at c h v A s cells D o Size f u.token u.file home u.owned.0 u.covers
          (live_owner c h v A s cells D o Size f u) in
          let lt : present (cells f Size) < y = subst (λ z. z < y) here (o.rules.grown.grows f y e) in
          omega arith

  kept_present : (f : Fid) → site f ≡ v → (cells f Size).kept ≤ present (cells f Size)
  kept_present f home = go (cells f Size).unsaved refl
    where
      go : (w : Option (Written ℕ)) → (cells f Size).unsaved ≡ w → (cells f Size).kept ≤ value_of w (cells f Size).kept
      go None e = omega arith
      go (Some u) e = o.treed.grown f u home e

  grown' : (f : Fid) (u : Written ℕ) → site f ≡ v → (new_cells f Size).unsaved ≡ Some u
      → (new_cells f Size).kept ≤ u.value
  grown' f u home e =
      let le : (cells f Size).kept ≤ present (new_cells f Size) =
      no_less f (cells f Size).kept home (kept_present f home) in
      subst (λ x. x ≤ u.value) (sym (kept_written h (c.wrote A s f Size) (cells f Size)))
      (subst (λ x. (cells f Size).kept ≤ x)
      (ap (λ (y : Option (Written ℕ)). value_of y (new_cells f Size).kept) e) le)

  size_open' : (f : Fid) (x : ℕ) (g : Give) → site f ≡ v → Open c (s ∷ A) v S h f Size x g → (HasGoneAway S h → ⊥)
      → ((new_cells f Size).kept ≤ x) × (x ≤ present (new_cells f Size))
  size_open' f x g home k up = go (open_was c h v A s cells D o Size f x g k)
    where
      on : ((cells f Size).kept ≤ x) × (x ≤ present (cells f Size)) → ((new_cells f Size).kept ≤ x)
          × (x ≤ present (new_cells f Size))
      on q = (subst (λ y. y ≤ x) (sym (kept_written h (c.wrote A s f Size) (cells f Size))) q.0, no_less f x home q.1)

      go : In g s.made ⊎ Open c A v S h f Size x g → ((new_cells f Size).kept ≤ x) × (x ≤ present (new_cells f Size))
      go (inr b) = on (o.shown.size_open f x g home b up)
      go (inl n) =
          let w = gave_size c h v A s cells D o f x g n k.file k.has in
          let is : present (cells f Size) ≡ x = size_is c h v A s cells D o f x home up w in
          let le = kept_present f home in
          on (omega arith, omega arith)

  open_order' : (f : Fid) (x y : ℕ) (g r : Give) → site f ≡ v → Open c (s ∷ A) v S h f Size x g
      → Open c (s ∷ A) v S h f Size y r → (HasGoneAway S h → ⊥) → g.number ≤ r.number → x ≤ y
  open_order' f x y g r home k l up le =
      go (open_was c h v A s cells D o Size f x g k) (open_was c h v A s cells D o Size f y r l)
    where
      go : In g s.made ⊎ Open c A v S h f Size x g → In r s.made ⊎ Open c A v S h f Size y r → x ≤ y
      go (inl a) (inl b) = let i : sees c A s f Size ≡ x = (gave_size c h v A s cells D o f x g a k.file k.has).1 in
          let j : sees c A s f Size ≡ y = (gave_size c h v A s cells D o f y r b l.file l.has).1 in omega arith
      go (inl a) (inr b) = absurd (let lt : r.number < g.number =
          o.may.makes_new g r a b.made (ap (λ (j : Fid). j.fileset) (b.file ∙ sym k.file)) in omega arith)
      go (inr a) (inl b) =
          let w = gave_size c h v A s cells D o f y r b l.file l.has in
          let is : present (cells f Size) ≡ y = size_is c h v A s cells D o f y home up w in
          let top : x ≤ present (cells f Size) = (o.shown.size_open f x g home a up).1 in
          omega arith
      go (inr a) (inr b) = o.shown.open_order f x y g r home a b up le

  -- a length that was given back since the token was taken
  since_cases : (f : Fid) (g : Give) → OwnsUpdate (s ∷ A) f Size → MadeSince (s ∷ A) f g → In g s.made
      ⊎ (MadeSince A f g × OwnsUpdate A f Size)
  since_cases f g u (inl n) = inl n
  since_cases f g u (inr m) = inr (
    m.0,
    elim u.owned.0 [
      | inl t ↦ absurd (m.1 (u.token, t, record { file = u.file; covers = u.covers; update = u.update }))
      | inr w ↦ record { token = u.token; owned = w; file = u.file; covers = u.covers; update = u.update }
    ],
  )

  -- what the host sees only grows
  no_less_seen : (f : Fid) → sees c A s f Size ≤ view c (s ∷ A) f Size
  no_less_seen f = go (c.wrote A s f Size) refl
    where
      go : (w : Option ℕ) → c.wrote A s f Size ≡ w → sees c A s f Size ≤ unwrap_or w (sees c A s f Size)
      go None e = omega arith
      go (Some y) e = let lt = o.rules.grown.grows f y e in omega arith

  since_le' : (f : Fid) (x : ℕ) (g : Give) → site f ≡ v → OwnsUpdate (s ∷ A) f Size → MadeSince (s ∷ A) f g → g.fid ≡ f
      → c.gives g Size ≡ Some x → (HasGoneAway S h → ⊥) → x ≤ view c (s ∷ A) f Size
  since_le' f x g home u m file has up =
      elim (since_cases f g u m) [
        | inl n ↦ (let is : sees c A s f Size ≡ x = (gave_size c h v A s cells D o f x g n file has).1 in
            let le = no_less_seen f in omega arith)
        | inr p ↦ (let was = o.shown.since_le f x g home p.1 p.0 file has up in
            let same = sees_on c h v A s cells D o Size f home p.1 up in let le = no_less_seen f in omega arith)
      ]

  settled' : (f : Fid) (g : Give) → site f ≡ v → OwnsUpdate (s ∷ A) f Size → MadeSince (s ∷ A) f g → Made (s ∷ A) g
      → g.fid ≡ f → c.gives g Size ≡ Some (view c (s ∷ A) f Size) → IsApplied v S h (number_of g) → (HasGoneAway S h → ⊥)
      → (new_cells f Size).unsaved ≡ None
  settled' f g home u m made file has applied up =
      elim (since_cases f g u m) [ inl j ↦ absurd (not_applied c h v A s cells D o g j applied) | inr p ↦ on p.0 p.1 ]
    where
      was_made : Made (s ∷ A) g → Made A g
      was_made (inl j) = absurd (not_applied c h v A s cells D o g j applied)
      was_made (inr j) = j

      on : MadeSince A f g → OwnsUpdate A f Size → (new_cells f Size).unsaved ≡ None
      on q p =
          elim (option_cases (c.wrote A s f Size)) [
            | inl none ↦ (let same : view c (s ∷ A) f Size ≡ view c A f Size =
                none_is (c.wrote A s f Size) (sees c A s f Size) none ∙ sees_on c h v A s cells D o Size f home p up in
                same_unsaved Size f (λ x y. none_some (c.wrote A s f Size) x none y)
                ∙ o.shown.settled f g home p q (was_made made) file (has ∙ ap (λ y. Some y) same) applied up)
            | inr y ↦ absurd (
                let le : view c (s ∷ A) f Size ≤ view c A f Size =
                o.shown.since_le f (view c (s ∷ A) f Size) g home p q file has up in
                let is : view c (s ∷ A) f Size ≡ y.0 = some_is (c.wrote A s f Size) (sees c A s f Size) y.0 y.1 in
                let lt = o.rules.grown.grows f y.0 y.1 in
                let same = sees_on c h v A s cells D o Size f home p up in
                omega arith
                )
          ]

  same_kept : (f : Fid) (q : ℕ) → q < (cells f Size).kept → q < (new_cells f Size).kept
  same_kept f q lt = subst (λ y. q < y) (sym (kept_written h (c.wrote A s f Size) (cells f Size))) lt

  inside' : (q : ℕ) (f : Fid) (u : Written ℕ) → site f ≡ v → (new_cells f (ByteAt q)).unsaved ≡ Some u
      → q < present (new_cells f Size)
  inside' q f u home = go (c.wrote A s f (ByteAt q)) refl
    where
      go : (w : Option ℕ) → c.wrote A s f (ByteAt q) ≡ w → (written h w (cells f (ByteAt q))).unsaved ≡ Some u
          → q < present (new_cells f Size)
      go (Some x) e i =
          let r = o.rules.writes_below f q x e in
          let t = r.1 in
          let at : site t.0.fid ≡ v = ap site t.2.file ∙ home in
          let is : view c (s ∷ A) f Size ≡ present (new_cells f Size) =
          subst (λ j. view c (s ∷ A) j Size ≡ present (new_cells j Size)) t.2.file
          (cached' c h v A s cells D o Size t.0 at t.1 t.2.covers (live c h v A s cells D o t.0 t.1)) in
          subst (λ y. q < y) is r.0
      go None e i =
          let lt = o.treed.inside q f u home i in
          let le : present (cells f Size) ≤ present (new_cells f Size) =
          no_less f (present (cells f Size)) home (omega arith) in
          omega arith

  -- where a byte of a host that isn't another's is unsaved, and the length of another host
  apart' : (q : ℕ) (f : Fid) (u w : Written ℕ) → site f ≡ v → (new_cells f (ByteAt q)).unsaved ≡ Some u
      → (new_cells f Size).unsaved ≡ Some w → (u.writer ≡ w.writer → ⊥) → q < (new_cells f Size).kept
  apart' q f u w home e0 q0 two = go (c.wrote A s f (ByteAt q)) refl e0
    where
      go : (x : Option ℕ) → c.wrote A s f (ByteAt q) ≡ x → (written h x (cells f (ByteAt q))).unsaved ≡ Some u
          → q < (new_cells f Size).kept
      go (Some x) e i = size (c.wrote A s f Size) refl q0
        where
          same : by h x ≡ u
          same = cc

          size : (y : Option ℕ) → c.wrote A s f Size ≡ y → (written h y (cells f Size)).unsaved ≡ Some w
              → q < (new_cells f Size).kept
          size (Some y) n j = absurd (let k : by h y ≡ w = cc in
              two (ap (λ (m : Written ℕ). m.writer) (sym same) ∙ ap (λ (m : Written ℕ). m.writer) k))
          size None n j =
              let b = o.writes Size f w home j in
              let t = (o.rules.writes_below f q x e).1 in
              let at : site t.0.fid ≡ v = ap site t.2.file ∙ home in
              let g = o.link'.held t.0 (o.seen'.owned_at t.0 t.1 ∙ at) t.1 in
              absurd (alone_there v S o.served w.writer Size f t.0 b
              (g.owed (live c h v A s cells D o t.0 t.1)) t.2.file t.2.covers
              (λ n. two (sym (ap (λ (m : Written ℕ). m.writer) same) ∙ (sym g.host ∙ n))))
      go None e i = size (c.wrote A s f Size) refl q0
        where
          size : (y : Option ℕ) → c.wrote A s f Size ≡ y → (written h y (cells f Size)).unsaved ≡ Some w
              → q < (new_cells f Size).kept
          size None n j = same_kept f q (o.treed.apart q f u w home i j two)
          size (Some y) n j =
              let is : by h y ≡ w = cc in
              same_kept f q (old (cells f Size).unsaved refl (ap (λ (m : Written ℕ). m.writer) is))
            where
              old : (m : Option (Written ℕ)) → (cells f Size).unsaved ≡ m → h ≡ w.writer → q < (cells f Size).kept
              old None k hw = subst (λ m. q < value_of m (cells f Size).kept) k (o.treed.inside q f u home i)
              old (Some l) k hw =
                  elim (cases_host l.writer h) [
                    | inl a ↦ o.treed.apart q f u l home i k (λ b. two (b ∙ (a ∙ hw)))
                    | inr a ↦ absurd (foreign_writer c h v A s cells D o Size f l.writer y home
                        (o.writes Size f l home k) a n)
                  ]

  open_below' : (q : ℕ) (f : Fid) (x : ℕ) (g : Give) → site f ≡ v → Open c (s ∷ A) v S h f (ByteAt q) x g
      → (HasGoneAway S h → ⊥) → (q < (new_cells f Size).kept)
      ⊎ ((y : ℕ) × (r : Give) × Open c (s ∷ A) v S h f Size y r × (q < y) × (r.number ≤ g.number))
  open_below' q f x g home k up = split (open_was c h v A s cells D o (ByteAt q) f x g k)
    where
      split : In g s.made ⊎ Open c A v S h f (ByteAt q) x g → (q < (new_cells f Size).kept)
          ⊎ ((y : ℕ) × (r : Give) × Open c (s ∷ A) v S h f Size y r × (q < y) × (r.number ≤ g.number))
      split (inr b) =
          elim (o.shown.open_below q f x g home b up) [
            | inl lt ↦ inl (same_kept f q lt)
            | inr r ↦ inr (r.0, r.1, open_on c h v A s cells D o Size f r.0 r.1 r.2, r.3, r.4)
          ]
      split (inl n) = new (cells f Size).unsaved refl
        where
          its : (cells f (ByteAt q)).unsaved ≡ Some (by h (view c A f (ByteAt q)))
          its = o.shown.dirty_is q f home
              (subst (λ j. dirty c A j q ≡ true) k.file (o.rules.gives.gives_dirty g q x n k.has)) up

          lt : q < present (cells f Size)
          lt = o.treed.inside q f (by h (view c A f (ByteAt q))) home its

          new : (m : Option (Written ℕ)) → (cells f Size).unsaved ≡ m → (q < (new_cells f Size).kept)
              ⊎ ((y : ℕ) × (r : Give) × Open c (s ∷ A) v S h f Size y r × (q < y) × (r.number ≤ g.number))
          new None j = inl (same_kept f q (subst (λ m. q < value_of m (cells f Size).kept) j lt))
          new (Some l) j =
              elim (cases_host h l.writer) [
                | inr a ↦ inl (same_kept f q (o.treed.apart q f (by h (view c A f (ByteAt q))) l home its j a))
                | inl a ↦ ours (o.shown.mine Size f l.value home (j ∙ ap (λ i. Some (by i l.value)) (sym a)))
              ]
            where
              top : q < l.value
              top = subst (λ m. q < value_of m (cells f Size).kept) j lt

              owns : OwnsUpdate A f Size → (q < (new_cells f Size).kept)
                  ⊎ ((y : ℕ) × (r : Give) × Open c (s ∷ A) v S h f Size y r × (q < y) × (r.number ≤ g.number))
              owns u =
                  let y = o.rules.gives.gives_too g q x n k.has (subst (λ i. OwnsUpdate A i Size) (sym k.file) u)
                  (λ clean. none_some (cells f Size).unsaved l
                  (clean_none c h v A s cells D o f home u (subst (Clean c A s) k.file clean) up) j) in
                  let is : present (cells f Size) ≡ y.0 =
                  size_is c h v A s cells D o f y.0 home up (gave_size c h v A s cells D o f y.0 g n k.file y.1) in
                  inr (
                    y.0,
                    g,
                    record { made = k.made; file = k.file; has = y.1; not_applied = k.not_applied },
                    subst (λ i. q < i) is lt,
                    omega arith,
                  )

              ours : (HasGoneAway S h → ⊥) × (OwnsUpdate A f Size ⊎ ((r : Give) × Open c A v S h f Size l.value r))
                  → (q < (new_cells f Size).kept)
                  ⊎ ((y : ℕ) × (r : Give) × Open c (s ∷ A) v S h f Size y r × (q < y) × (r.number ≤ g.number))
              ours (_, inl u) = owns u
              ours (_, inr (r, w)) = inr (
                l.value,
                r,
                open_on c h v A s cells D o Size f l.value r w,
                top,
                (let less : r.number < g.number =
                    o.may.makes_new g r n w.made (ap (λ (i : Fid). i.fileset) (w.file ∙ sym k.file)) in omega arith),
              )

  plain' : (p : Part) (f : Fid) → site f ≡ v → (IsData p → ⊥) → (new_cells f p).unsaved ≡ None
  plain' p f home free = same_unsaved p f (λ x e. free (c.wrote_data A s f p x e)) ∙ o.treed.plain p f home free

  writable' : (p : Part) (f : Fid) (u : Written (Seen p)) → site f ≡ v → (new_cells f p).unsaved ≡ Some u
      → IsWritable (kept c D f Traits)
  writable' p f u home = go (c.wrote A s f p) refl
    where
      go : (w : Option (Seen p)) → c.wrote A s f p ≡ w → (written h w (cells f p)).unsaved ≡ Some u
          → IsWritable (kept c D f Traits)
      go None e i = o.treed.writable p f u home i
      go (Some x) e i = known_file c h v A s cells D o f home (o.rules.writes_file f p x e)

  pub shown_own : Shown c h (s ∷ A) (λ f p. written h (c.wrote A s f p) (cells f p)) v D
  shown_own = record {
    cached = cached' c h v A s cells D o;
    flight = flight' c h v A s cells D o;
    mine = mine' c h v A s cells D o;
    open_under = open_under' c h v A s cells D o;
    asked = asked' c h v A s cells D o;
    asked_given = asked_given' c h v A s cells D o;
    asked_for = asked_for' c h v A s cells D o;
    blind = o.shown.blind;
    dirty_is = dirty_is';
    open_is = open_is';
    open_free = open_free';
    open_once = open_once';
    size_open = size_open';
    open_order = open_order';
    since_le = since_le';
    settled = settled';
    open_below = open_below';
  }

  pub treed_own : Treed c (λ f p. written h (c.wrote A s f p) (cells f p)) v D
  treed_own = record {
    kept_is = λ p f home. kept_written h (c.wrote A s f p) (cells f p) ∙ o.treed.kept_is p f home;
    plain = plain';
    alike = o.treed.alike;
    roots = o.treed.roots;
    there = o.treed.there;
    writable = writable';
    grown = grown';
    inside = inside';
    apart = apart';
  }
