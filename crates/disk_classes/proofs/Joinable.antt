-- Whether the class of a member can be joined with that of a page.
use Rattle.std.proofs.Common.{◌≡◌, ◌≢◌, ◌<◌, ◌⊎◌, ◌∙◌, ℕ, List, length, length-set, get_or, set, take, refl, sym, ap, subst, inl, inr, arith, Option, Some, None}
use Rattle.std.specs.Prelude.{Contains, IfSome}
use Rattle.disk_classes.specs.Notes.{noted_at, class_of, joined_at, IsNoted, JoinsPage, NotesPage, ArePartition, AreValues}
use Rattle.disk_classes.specs.declared.member.Noted.{Noted as Kept}
use Rattle.disk_classes.specs.declared.members.Value.{Value}
use Rattle.disk_classes.specs.declared.member.Standing.TheVariants.{Vacant}
use Rattle.disk_classes.proofs.Noted.{updated, live_within, vacant_or_not}
use Rattle.disk_classes.proofs.Putting.{putter_live, taken_back}

pub record IsJoinable (member : ℕ) (ms : List Kept) (values : List (Option Value)) : Type 0 where
  pub member_in : member < length ms
  pub within : (c m : ℕ) → Contains (joined_at ms c) m → m < length ms
  pub classes : (m : ℕ) → m < length ms → class_of ms m < length ms
  pub values_in : (p : ℕ) → IfSome (get_or values p None) (λ (value : Value). value.member < length ms)

module _ (member page : ℕ) (ms : List Kept) (values : List (Option Value)) (part : ArePartition ms) (vals : AreValues ms values) (live : (noted_at ms member).standing ≢ Vacant) where
  class_in : (m : ℕ) → m < length ms → ((noted_at ms m).standing ≡ Vacant) ⊎ ((noted_at ms m).standing ≢ Vacant) → class_of ms m < length ms
  class_in m lt (inl none) = let e = (part.none m none).1 in omega (arith, e, lt)
  class_in m lt (inr is) = live_within ms (class_of ms m) (part.named m is).0

  module _ (more : List ℕ) where
    abbrev longer : Kept
    longer = record (noted_at ms member) { pages = more }

    abbrev noted : List Kept
    noted = set ms member longer

    size : length noted ≡ length ms
    size = length-set ms member longer

    value_in : (p : ℕ) (o : Option Value) → get_or values p None ≡ o → IfSome o (λ (value : Value). value.member < length noted)
    value_in p None is = tt
    value_in p (Some value) is = let lt = live_within ms value.member (putter_live ms part value.member p (vals.by_one p value is)) in let e = size in omega (arith, lt, e)

    joinable_noted : IsJoinable member noted values
    joinable_noted = record {
      member_in = (let lt = live_within ms member live in let e = size in omega (arith, lt, e));
      within = λ c m h.
          (let old = subst (λ (l : List ℕ). Contains l m) (updated (λ (n : Kept). n.joined) ms member longer refl c) h in
          let lt = live_within ms m (part.inside c m old).1 in let e = size in omega (arith, lt, e));
      classes = λ m lt.
          (let e = size in
          let f = updated (λ (n : Kept). n.class) ms member longer refl m in
          let g = class_in m (omega (arith, lt, e)) (vacant_or_not (noted_at ms m).standing) in
          omega (arith, e, f, g));
      values_in = λ p. value_in p (get_or values p None) refl;
    }

  pub joinable : (now : List Kept) → IsNoted member page ms now → IsJoinable member now values
  joinable now (more, with, is) = subst (λ (l : List Kept). IsJoinable member l values) (sym is) (joinable_noted more)

  pub notes_page : (now new : List Kept) → IsNoted member page ms now → JoinsPage member page values now new → NotesPage member page values ms new
  notes_page now new (more, with, is) joins = (more, with, subst (λ (l : List Kept). JoinsPage member page values l new) is joins)

  -- the page is taken out again
  pub noted_back : (now : List Kept) (x : Kept) (n : ℕ) → IsNoted member page ms now → x ≡ noted_at now member → n ≡ length (noted_at ms member).pages → set now member (record x { pages = take n x.pages }) ≡ ms
  noted_back now x n (more, with, is) x_is n_is =
      (λ j. set (is j) member (record (x_more j) { pages = take (n_is j) (x_more j).pages }))
      ∙ taken_back member page ms more part live with
    where
      x_more : x ≡ noted_at (set ms member (record (noted_at ms member) { pages = more })) member
      x_more = x_is ∙ ap (λ (l : List Kept). noted_at l member) is
