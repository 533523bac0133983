-- Whether all members of a class have ended.
use Rattle.std.proofs.Common.{◌≡◌, ◌≢◌, ◌<◌, ◌≤◌, ◌⊎◌, ◌∙◌, ℕ, ◌+◌, List, length, take, get_or, refl, sym, ap, subst, inl, inr}
use Rattle.std.specs.Prelude.{true, false, Contains, IsTrue, ◌↔◌}
use Rattle.std.proofs.lemmas.List.{get_or_read, get_or_default, take_more, take_all}
use Rattle.std.proofs.lemmas.List.Elements.{Contains-get_or, Contains-push_cases}
use Rattle.disk_classes.specs.Notes.{vacant, noted_at, class_of, joined_at, AreEndedAll, ArePartition}
use Rattle.disk_classes.specs.declared.member.Noted.{Noted as Kept}
use Rattle.disk_classes.specs.declared.member.Standing.TheVariants.{Vacant, Ended}
use Rattle.disk_classes.proofs.Noted.{live_within, ended_live}

-- what a read gives is what is kept
pub read_at : (ms : List Kept) (i : ℕ) (x : Kept) → i < length ms → x ≡ get_or ms i x → x ≡ noted_at ms i
read_at ms i x lt is = get_or_read ms i x lt is (vacant i)

pub list_is : (ms : List Kept) (class : ℕ) (x : Kept) (xs : List ℕ) → class < length ms → xs ≡ (get_or ms class x).joined → xs ≡ joined_at ms class
list_is ms class x xs lt same = same ∙ ap (λ (n : Kept). n.joined) (get_or_default ms class x (vacant class) lt)

there : (ms : List Kept) (class : ℕ) (xs : List ℕ) (i : ℕ) → xs ≡ joined_at ms class → i < length xs → Contains (joined_at ms class) (get_or xs i 0)
there ms class xs i is lt = subst (λ (l : List ℕ). Contains l (get_or xs i 0)) is (Contains-get_or xs i 0 lt)

pub inside_list : (ms : List Kept) (class : ℕ) (xs : List ℕ) (i : ℕ) → xs ≡ joined_at ms class → ((m : ℕ) → Contains (joined_at ms class) m → m < length ms) → i < length xs → get_or xs i 0 < length ms
inside_list ms class xs i is within lt = within (get_or xs i 0) (there ms class xs i is lt)

pub at_number : (ms : List Kept) (class : ℕ) {xs : List ℕ} {i : ℕ} (x : Kept) → ((m : ℕ) → Contains (joined_at ms class) m → m < length ms) → xs ≡ joined_at ms class → i < length xs → x ≡ get_or ms (get_or xs i 0) x → x ≡ noted_at ms (get_or xs i 0)
at_number ms class {xs} {i} x within is lt at = read_at ms (get_or xs i 0) x (inside_list ms class xs i is within lt) at

pub ended_not : (ms : List Kept) (class : ℕ) (xs : List ℕ) (i : ℕ) → xs ≡ joined_at ms class → i < length xs → ((noted_at ms (get_or xs i 0)).standing ≡ Ended → ⊥) → IsTrue false ↔ AreEndedAll ms (joined_at ms class)
ended_not ms class xs i is lt other = (λ t. absurd (cc), λ all. absurd (other (all (get_or xs i 0) (there ms class xs i is lt))))

pub ended_more : (ms : List Kept) (xs : List ℕ) (i : ℕ) → i < length xs → AreEndedAll ms (take i xs) → (noted_at ms (get_or xs i 0)).standing ≡ Ended → AreEndedAll ms (take (i + 1) xs)
ended_more ms xs i lt so_far here m h = by (Contains-push_cases (take i xs) (get_or xs i 0) m (subst (λ (l : List ℕ). Contains l m) (take_more xs i 0 lt) h))
  where
    by : Contains (take i xs) m ⊎ (get_or xs i 0 ≡ m) → (noted_at ms m).standing ≡ Ended
    by (inl before) = so_far m before
    by (inr e) = subst (λ (k : ℕ). (noted_at ms k).standing ≡ Ended) e here

pub ended_whole : (ms : List Kept) (class : ℕ) (xs : List ℕ) (i : ℕ) → xs ≡ joined_at ms class → length xs ≤ i → AreEndedAll ms (take i xs) → IsTrue true ↔ AreEndedAll ms (joined_at ms class)
ended_whole ms class xs i is le all = (λ t m h. all m (subst (λ (l : List ℕ). Contains l m) (sym (take_all i xs le)) (subst (λ (l : List ℕ). Contains l m) (sym is) h)), λ every. refl)

-- the class of a member
module _ (ms : List Kept) (part : ArePartition ms) (i : ℕ) (x : Kept) (lt : i < length ms) (x_is : x ≡ get_or ms i x) (ended : x.standing ≡ Ended) where
  pub class_at : x.class ≡ class_of ms i
  class_at = ap (λ (n : Kept). n.class) (read_at ms i x lt x_is)

  pub ended_at : (noted_at ms i).standing ≡ Ended
  ended_at = sym (ap (λ (n : Kept). n.standing) (read_at ms i x lt x_is)) ∙ ended

  names : (noted_at ms (class_of ms i)).standing ≢ Vacant × (class_of ms (class_of ms i) ≡ class_of ms i)
  names = part.named i (ended_live (noted_at ms i).standing ended_at)

  pub class_live : (noted_at ms x.class).standing ≢ Vacant
  class_live = subst (λ (k : ℕ). (noted_at ms k).standing ≢ Vacant) (sym class_at) names.0

  pub class_named : class_of ms x.class ≡ x.class
  class_named = subst (λ (k : ℕ). class_of ms k ≡ k) (sym class_at) names.1

  pub class_within : x.class < length ms
  class_within = live_within ms x.class class_live

  pub joined_within : (m : ℕ) → Contains (joined_at ms x.class) m → m < length ms
  joined_within m there = live_within ms m (part.inside x.class m there).1

-- members that a call names
pub within_said : (ms : List Kept) (class : ℕ) (x : Kept) (xs : List ℕ) → class < length ms → x ≡ get_or ms class x → xs ≡ x.joined → ((m : ℕ) → Contains (joined_at ms class) m → m < length ms) → (m : ℕ) → Contains xs m → m < length ms
within_said ms class x xs lt x_is is within m h = within m (subst (λ (l : List ℕ). Contains l m) (is ∙ ap (λ (n : Kept). n.joined) (read_at ms class x lt x_is)) h)
