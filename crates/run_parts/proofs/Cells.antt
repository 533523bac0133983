-- Options, truth values, parts.
use Rattle.std.proofs.Common.{◌≡◌, ℕ, ◌≤◌, ◌⊎◌, ◌==◌, ◌&&◌, ◌||◌, not, Bool, true, false, if◌then◌else◌, Option, Some}
use Rattle.std.proofs.Common.{None, is_some, inl, inr, sym, ap, refl, ◌∙◌, eqb-true, arith}
use Rattle.std.specs.Prelude.{unwrap_or}
use Rattle.std.proofs.lemmas.Bool.{eqb-false}
use Rattle.base_types.specs.declared.ids.HostId.{HostId}
use Rattle.tree_laws.specs.Fates.{without, size_left}
use Rattle.tree_laws.specs.Parts.{Part, Seen, Written, Cell, present}
use Rattle.tree_laws.specs.Parts.Part.{ByteAt, Size, Traits, Entries}
use Rattle.run_parts.specs.Cells.{Does, by, value_of, written, stored, cell_after}
use Rattle.run_parts.specs.Cells.Does.{Nothing, Stores, Sets, Loses}

pub option_cases : {X : Type 0} (o : Option X) → (o ≡ None) ⊎ ((x : X) × (o ≡ Some x))
option_cases None = inl refl
option_cases (Some x) = inr (x, refl)

pub some_value : {X : Type 0} (o : Option X) → is_some o ≡ true → (x : X) × (o ≡ Some x)
some_value None e = absurd (cc)
some_value (Some x) e = (x, refl)

pub none_is : {X : Type 0} (o : Option X) (d : X) → o ≡ None → unwrap_or o d ≡ d
none_is None d e = refl
none_is (Some x) d e = absurd (cc)

pub some_is : {X : Type 0} (o : Option X) (d x : X) → o ≡ Some x → unwrap_or o d ≡ x
some_is None d x e = absurd (cc)
some_is (Some y) d x e = cc

pub none_some : {X : Type 0} (o : Option X) (x : X) → o ≡ None → o ≡ Some x → ⊥
none_some None x e q = cc
none_some (Some y) x e q = cc

pub same_some : {X : Type 0} (o : Option X) (x y : X) → o ≡ Some x → o ≡ Some y → x ≡ y
same_some o x y e q = let r : Some x ≡ Some y = sym e ∙ q in cc

pub bool_cases : (b : Bool) → (b ≡ true) ⊎ (b ≡ false)
bool_cases true = inl refl
bool_cases false = inr refl

pub cases_host : (a b : HostId) → (a ≡ b) ⊎ (a ≡ b → ⊥)
cases_host a b = go (a.0 == b.0) refl
  where
    go : (q : Bool) → (a.0 == b.0) ≡ q → (a ≡ b) ⊎ (a ≡ b → ⊥)
    go true e = inl (ap (λ (n : ℕ). record { 0 = n }) (eqb-true a.0 b.0 e))
    go false e = inr (λ q. eqb-false a.0 b.0 e (ap (λ (k : HostId). k.0) q))

-- a written byte that isn't handed over is dirty, a dirty one that isn't handed over stays so
pub dirty_now : (o : Option ℕ) (b d : Bool) (x : ℕ) → o ≡ Some x → d ≡ false → ((is_some o || b) && not d) ≡ true
dirty_now None b d x e n = absurd (cc)
dirty_now (Some y) b false x e n = refl
dirty_now (Some y) b true x e n = absurd (cc)

pub dirty_on : (o : Option ℕ) (d g : Bool) → d ≡ true → g ≡ false → ((is_some o || d) && not g) ≡ true
dirty_on None true false e n = refl
dirty_on None false g e n = absurd (cc)
dirty_on None true true e n = absurd (cc)
dirty_on (Some x) d false e n = refl
dirty_on (Some x) d true e n = absurd (cc)

pub dirty_was : (o : Option ℕ) (d g : Bool) → o ≡ None → ((is_some o || d) && not g) ≡ true → d ≡ true
dirty_was None true g n e = refl
dirty_was None false g n e = absurd (cc)
dirty_was (Some x) d g n e = absurd (cc)

pub dirty_free : (o : Option ℕ) (d g : Bool) → ((is_some o || d) && not g) ≡ true → g ≡ false
dirty_free None true false e = refl
dirty_free None true true e = absurd (cc)
dirty_free None false g e = absurd (cc)
dirty_free (Some x) d false e = refl
dirty_free (Some x) d true e = absurd (cc)

pub by_same : {X : Type 0} (h j : HostId) (x y : X) → Some (by h x) ≡ Some (by j y) → (h ≡ j) × (x ≡ y)
by_same h j x y e = let q : by h x ≡ by j y = cc in
    (ap (λ (u : Written _). u.writer) q, ap (λ (u : Written _). u.value) q)

pub value_is : {X : Type 0} (o : Option (Written X)) (k : X) (u : Written X) → o ≡ Some u → value_of o k ≡ u.value
value_is o k u e = ap (λ (q : Option (Written _)). value_of q k) e

pub value_none : {X : Type 0} (o : Option (Written X)) (k : X) → o ≡ None → value_of o k ≡ k
value_none o k e = ap (λ (q : Option (Written _)). value_of q k) e

pub none_of : {X : Type 0} (o : Option X) → ((x : X) → o ≡ Some x → ⊥) → o ≡ None
none_of None none = refl
none_of (Some u) none = absurd (none u refl)

pub unwritten : {X : Type 0} (h : HostId) (o : Option X) (cell : Cell X) → o ≡ None → written h o cell ≡ cell
unwritten h None cell e = refl
unwritten h (Some x) cell e = absurd (cc)

pub present_written : {X : Type 0} (h : HostId) (o : Option X) (cell : Cell X)
    → present (written h o cell) ≡ unwrap_or o (present cell)
present_written h None cell = refl
present_written h (Some x) cell = refl

pub written_by : {X : Type 0} (h : HostId) (o : Option X) (cell : Cell X) (x y : X) → o ≡ Some x
    → (written h o cell).unsaved ≡ Some (by h (unwrap_or o y))
written_by h None cell x y e = absurd (cc)
written_by h (Some z) cell x y e = refl

pub kept_written : {X : Type 0} (h : HostId) (o : Option X) (cell : Cell X) → (written h o cell).kept ≡ cell.kept
kept_written h None cell = refl
kept_written h (Some x) cell = refl

pub lost_same : {X : Type 0} (h : HostId) (o : Option (Written X)) → ((u : Written X) → o ≡ Some u → u.writer ≡ h → ⊥)
    → without h o ≡ o
lost_same h None apart = refl
lost_same {X} h (Some u) apart = go (u.writer.0 == h.0) refl
  where
    go : (b : Bool) → (u.writer.0 == h.0) ≡ b → (if b then None else Some u) ≡ Some u
    go true e = absurd (apart u refl (ap (λ (n : ℕ). record { 0 = n }) (eqb-true u.writer.0 h.0 e)))
    go false e = refl

pub left_is : {X : Type 0} (h : HostId) (o : Option (Written X)) (u : Written X) → without h o ≡ Some u → (o ≡ Some u)
    × (u.writer ≡ h → ⊥)
left_is h None u e = absurd (cc)
left_is {X} h (Some w) u e = go (w.writer.0 == h.0) refl e
  where
    go : (b : Bool) → (w.writer.0 == h.0) ≡ b → (if b then None else Some w) ≡ Some u → (Some w ≡ Some u)
        × (u.writer ≡ h → ⊥)
    go true q r = absurd (cc)
    go false q r = (
      r,
      λ z. eqb-false w.writer.0 h.0 q (let same : w ≡ u = cc in
          ap (λ (y : Written X). y.writer.0) same ∙ ap (λ (k : HostId). k.0) z),
    )

pub left_size : (x : ℕ) (o : Option (Written ℕ)) (u : Written ℕ) → size_left x o ≡ Some u → (o ≡ Some u)
    × (u.value ≡ x → ⊥)
left_size x None u e = absurd (cc)
left_size x (Some w) u e = go (w.value == x) refl e
  where
    go : (b : Bool) → (w.value == x) ≡ b → (if b then None else Some w) ≡ Some u → (Some w ≡ Some u) × (u.value ≡ x → ⊥)
    go true q r = absurd (cc)
    go false q r = (r, λ k. eqb-false w.value x q (let same : w ≡ u = cc in ap (λ (y : Written ℕ). y.value) same ∙ k))

pub left_none : (x : ℕ) (o : Option (Written ℕ)) → ((u : Written ℕ) → o ≡ Some u → u.value ≡ x) → size_left x o ≡ None
left_none x None same = refl
left_none x (Some u) same = go (u.value == x) refl
  where
    go : (b : Bool) → (u.value == x) ≡ b → (if b then None else Some u) ≡ None
    go true e = refl
    go false e = absurd (eqb-false u.value x e (same u refl))

-- a size that is stored between the kept and the present one leaves the present one
pub size_stored : (x : ℕ) (cell : Cell ℕ) → cell.kept ≤ x → x ≤ present cell
    → present (stored Size x cell) ≡ present cell
size_stored x cell = go cell.unsaved
  where
    go : (o : Option (Written ℕ)) → cell.kept ≤ x → x ≤ value_of o cell.kept
        → value_of (size_left x o) x ≡ value_of o cell.kept
    go None a b = omega arith
    go (Some u) a b = pick (u.value == x) refl
      where
        pick : (q : Bool) → (u.value == x) ≡ q → value_of (if q then None else Some u) x ≡ u.value
        pick true e = sym (eqb-true u.value x e)
        pick false e = refl

-- what is unsaved after a doing was so before; it wasn't stored, but where it is a size, another one
pub unsaved_was : (p : Part) (d : Does (Seen p)) (cell : Cell (Seen p)) (u : Written (Seen p))
    → (cell_after p d cell).unsaved ≡ Some u → (cell.unsaved ≡ Some u) × (d ≡ Stores u.value → ⊥)
    × (d ≡ Loses u.writer → ⊥)
unsaved_was p Nothing cell u e = (e, λ q. cc, λ q. cc)
unsaved_was p (Sets x) cell u e = absurd (cc)
unsaved_was p (Loses h) cell u e = let l = left_is h cell.unsaved u e in
    (l.0, λ q. absurd (cc), λ q. l.1 (let r : h ≡ u.writer = cc in sym r))
unsaved_was Size (Stores x) cell u e = let l = left_size x cell.unsaved u e in
    (l.0, λ q. l.1 (let r : x ≡ u.value = cc in sym r), λ q. absurd (cc))
unsaved_was (ByteAt q) (Stores x) cell u e = absurd (cc)
unsaved_was Traits (Stores x) cell u e = absurd (cc)
unsaved_was Entries (Stores x) cell u e = absurd (cc)

-- nothing unsaved stays so
pub none_stays : (p : Part) (d : Does (Seen p)) (cell : Cell (Seen p)) → cell.unsaved ≡ None
    → (cell_after p d cell).unsaved ≡ None
none_stays p d cell e = none_of (cell_after p d cell).unsaved
    (λ u q. none_some cell.unsaved u e (unsaved_was p d cell u q).0)
