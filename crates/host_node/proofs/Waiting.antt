-- Calls that were answered between turns, as they are kept.
use Rattle.std.proofs.Common.{◌≡◌, ℕ, false, true, List, [], ◌∷◌, ◌++◌, map, refl, sym, ap, ◌∙◌, subst, inl, inr}
use Rattle.std.proofs.Common.{◌+◌, ◌<◌, Bor, None, Option, Some, append_assoc, drop, get_or, length, slice_get}
use Rattle.std.proofs.lemmas.List.{append-nil, drop_more}
use Rattle.std.specs.Option.{option_copied}
use Rattle.std.specs.Prelude.{Err, IfOk, IsOk, Ok, OnOk, Result, flat_map}
use Rattle.base_types.specs.declared.ids.HostId.{HostId}
use Rattle.host_node.specs.Between.{AreKept, IsSaid, Said, entry_of, spelled_of, step_of}
use Rattle.host_node.specs.declared.between.Entry.{Entry}
use Rattle.run_rules.specs.Past.{In}
use Rattle.run_rules.specs.declared.step.Step.{Step}
use Rattle.script_lines.specs.declared.script.Line.{Line}
use Rattle.tree_calls.specs.declared.reply.Reply.{Reply}

-- of one more
map_more : {A B : Type 0} (f : A → B) (xs : List A) (x : A) → map f (xs ++ x ∷ []) ≡ map f xs ++ f x ∷ []
map_more f [] x = refl
map_more {B = B} f (y ∷ xs) x = ap (λ (l : List B). f y ∷ l) (map_more f xs x)

flat_more : {A : Type 0} (f : A → List ℕ) (xs : List A) (x : A)
    → flat_map f (xs ++ x ∷ []) ≡ flat_map f xs ++ f x
flat_more f [] x = append-nil (f x)
flat_more f (y ∷ xs) x =
    ap (λ (l : List ℕ). f y ++ l) (flat_more f xs x) ∙ sym (append_assoc (f y) (flat_map f xs) (f x))

in_more : {A : Type 0} (xs : List A) (x y : A) (P : A → Type 0) → ((z : A) → In z xs → P z) → P x
    → In y (xs ++ x ∷ []) → P y
in_more [] x y P all one (inl e) = subst P (sym e) one
in_more [] x y P all one (inr n) = absurd n
in_more (z ∷ xs) x y P all one (inl e) = all y (inl e)
in_more (z ∷ xs) x y P all one (inr i) = in_more xs x y P (λ w j. all w (inr j)) one i

-- where all stand as steps
pub all_stand : (lines : List Line) (host : HostId) (steps : List Step) → AreKept lines host steps steps [] []
all_stand lines host steps = record {
  said = [];
  all = (λ x i. absurd i);
  are = sym (append-nil steps);
  entries_are = refl;
  spelled_are = refl;
}

-- so they do where nothing else is kept
pub none_kept : (lines : List Line) (host : HostId) (steps standing : List Step) (entries : List Entry)
    (spelled : List ℕ) → standing ≡ steps → entries ≡ [] → spelled ≡ []
    → AreKept lines host steps standing entries spelled
none_kept lines host steps standing entries spelled s e l = record {
  said = [];
  all = (λ x i. absurd i);
  are = sym (append-nil standing ∙ s);
  entries_are = e;
  spelled_are = l;
}

-- what stands in the same way is the same
pub same_kept : (lines : List Line) (host : HostId) (steps olds news : List Step) (old new : List Entry)
    (before after : List ℕ) → news ≡ olds → new ≡ old → after ≡ before → AreKept lines host steps olds old before
    → AreKept lines host steps news new after
same_kept lines host steps olds news old new before after s e l h = record {
  said = h.said;
  all = h.all;
  are = h.are ∙ ap (λ (z : List Step). z ++ map (step_of host) h.said) (sym s);
  entries_are = e ∙ h.entries_are;
  spelled_are = l ∙ h.spelled_are;
}

-- one more is noted
pub noted : (lines : List Line) (host : HostId) (steps standing : List Step) (entries : List Entry) (spelled : List ℕ)
    (said : Said) (entry : Entry) (bytes : List ℕ) → entry ≡ entry_of said → bytes ≡ spelled_of said
    → IsSaid lines said → AreKept lines host steps standing entries spelled
    → AreKept lines host (steps ++ step_of host said ∷ []) standing (entries ++ entry ∷ []) (spelled ++ bytes)
noted lines host steps standing entries spelled said entry bytes e l is h = record {
  said = h.said ++ said ∷ [];
  all = (λ x i. in_more h.said said x (IsSaid lines) h.all is i);
  are = ap (λ (z : List Step). z ++ step_of host said ∷ []) h.are
      ∙ append_assoc standing (map (step_of host) h.said) (step_of host said ∷ [])
      ∙ ap (λ (z : List Step). standing ++ z) (sym (map_more (step_of host) h.said said));
  entries_are = (λ i. h.entries_are i ++ e i ∷ []) ∙ sym (map_more entry_of h.said said);
  spelled_are = (λ i. h.spelled_are i ++ l i) ∙ sym (flat_more spelled_of h.said said);
}

-- # They are spelled out

-- the next is at the front
pub record IsFront (lines : List Line) (host : HostId) (steps standing : List Step) (entry : Entry)
    (entries : List Entry) (spelled : List ℕ) : Type 0 where
  pub said : Said
  pub is : IsSaid lines said
  pub entry_is : entry ≡ entry_of said
  pub behind : List ℕ
  pub spelled_is : spelled ≡ spelled_of said ++ behind
  pub then : AreKept lines host steps (standing ++ step_of host said ∷ []) entries behind

pub front : (lines : List Line) (host : HostId) (steps standing : List Step) (entry : Entry) (entries : List Entry)
    (spelled : List ℕ) → AreKept lines host steps standing (entry ∷ entries) spelled
    → IsFront lines host steps standing entry entries spelled
front lines host steps standing entry entries spelled h = by_said h.said h.all h.are h.entries_are h.spelled_are
  where
    by_said : (said : List Said) → ((s : Said) → In s said → IsSaid lines s)
        → steps ≡ standing ++ map (step_of host) said → entry ∷ entries ≡ map entry_of said
        → spelled ≡ flat_map spelled_of said → IsFront lines host steps standing entry entries spelled
    by_said [] all are e l = absurd (cc)
    by_said (s ∷ said) all are e l = record {
      said = s;
      is = all s (inl refl);
      entry_is = cc;
      behind = flat_map spelled_of said;
      spelled_is = l;
      then = record {
        said = said;
        all = (λ x i. all x (inr i));
        are = are ∙ sym (append_assoc standing (step_of host s ∷ []) (map (step_of host) said));
        entries_are = cc;
        spelled_are = refl;
      };
    }

-- the one at this place is spelled out
pub spelled_next : (lines : List Line) (host : HostId) (all : List Step) (entries : List Entry) (i : ℕ)
    (default : Entry) (rest : List ℕ) (steps : List Step) → i < length entries
    → AreKept lines host all steps (drop i entries) rest → (reply : Reply) (behind : List ℕ) (step : Step)
    (news : List Step)
    → ((ls : List Line) (said : Said) (b : List ℕ) → IsSaid ls said → rest ≡ spelled_of said ++ b
    → (reply ≡ said.reply) × (behind ≡ b))
    → ((said : Said) → IsSaid lines said → get_or entries i default ≡ entry_of said → reply ≡ said.reply
    → step ≡ step_of host said)
    → news ≡ steps ++ step ∷ [] → AreKept lines host all news (drop (i + 1) entries) behind
spelled_next lines host all entries i default rest steps less kept reply behind step news read made more =
    let item = get_or entries i default in
    let cut : drop i entries ≡ item ∷ drop (i + 1) entries = drop_more entries i default less in
    let f = front lines host all steps item (drop (i + 1) entries) rest
    (subst (λ (l : List Entry). AreKept lines host all steps l rest) cut kept) in
    let told = read lines f.said f.behind f.is f.spelled_is in
    same_kept lines host all (steps ++ step_of host f.said ∷ []) news (drop (i + 1) entries) (drop (i + 1) entries)
    f.behind behind (more ∙ ap (λ (s : Step). steps ++ s ∷ []) (made f.said f.is f.entry_is told.0)) refl told.1 f.then

-- what is read twice is the same
pub read_same : {A B E : Type 0} (r : Result (A × B) E) (a c : A) (b d : B) → r ≡ Ok (a, b) → r ≡ Ok (c, d)
    → (a ≡ c) × (b ≡ d)
read_same {A} {B} {E} r a c b d p q =
    let same : Ok (a, b) ≡ Ok (c, d) = sym p ∙ q in
    let pair : (a, b) ≡ (c, d) = cc in (ap (λ (x : A × B). x.0) pair, ap (λ (x : A × B). x.1) pair)

pub if_same : {T E : Type 0} (r : Result T E) (x y : T) → x ≡ y → IfOk r (λ s. s ≡ x) → IfOk r (λ s. s ≡ y)
if_same (Ok s) x y same is = is ∙ same
if_same (Err e) x y same is = tt

-- none is left
pub none_left : (lines : List Line) (host : HostId) (steps standing : List Step) (spelled : List ℕ)
    → AreKept lines host steps standing [] spelled → standing ≡ steps
none_left lines host steps standing spelled h = by_said h.said h.are h.entries_are
  where
    by_said : (said : List Said) → steps ≡ standing ++ map (step_of host) said → [] ≡ map entry_of said
        → standing ≡ steps
    by_said [] are e = sym (are ∙ append-nil standing)
    by_said (s ∷ said) are e = absurd (cc)

-- nothing waits
pub none_waits : (lines : List Line) (host : HostId) (steps standing : List Step) (entries : List Entry)
    (spelled : List ℕ) → standing ≡ [] → entries ≡ [] → AreKept lines host steps standing entries spelled
    → steps ≡ []
none_waits lines host steps standing entries spelled s e h =
    sym (none_left lines host steps standing spelled
    (subst (λ (l : List Entry). AreKept lines host steps standing l spelled) e h))
    ∙ s

-- # They are handed in

-- one more was handed in
pub each_done : {T U V E F G : Type 0} (both : Result T E) (done : Result U F) (pushed : Result V G)
    (first olds news yielded : List Step) (s : Step) → OnOk both (IsOk done) → OnOk both (IsOk pushed)
    → OnOk done (olds ≡ first ++ yielded) → OnOk pushed (news ≡ olds ++ s ∷ [])
    → OnOk both (news ≡ first ++ (yielded ++ s ∷ []))
each_done (Err b) done pushed first olds news yielded s one other at more = tt
each_done (Ok b) (Ok d) (Ok p) first olds news yielded s one other at more =
    more ∙ ap (λ (l : List Step). l ++ s ∷ []) at ∙ append_assoc first yielded (s ∷ [])
each_done (Ok b) (Ok d) (Err p) first olds news yielded s one other at more =
    let clash : false ≡ true = other in absurd (cc)
each_done (Ok b) (Err d) pushed first olds news yielded s one other at more =
    let clash : false ≡ true = one in absurd (cc)

pub on_any : {T E : Type 0} (r : Result T E) (P : Type 0) → P → OnOk r P
on_any (Ok x) P h = h
on_any (Err e) P h = tt

-- # What a caller is told

first_in : {A : Type 0} (xs : List A) (x : A) → slice_get xs 0 ≡ Some x → In x xs
first_in [] x e = absurd (cc)
first_in (y ∷ xs) x e = let same : Some y ≡ Some x = e in inl (let z : x ≡ y = cc in z)

pub first_is : {A : Type 0} (o : Option (Bor A)) (xs : List A) (x : Bor A) → option_copied o ≡ slice_get xs 0
    → o ≡ Some x → In x.now xs
first_is o xs x at is = first_in xs x.now (sym at ∙ ap option_copied is)

-- there is no first one of none
pub no_first : {A : Type 0} (o : Option (Bor A)) (xs : List A) → option_copied o ≡ slice_get xs 0
    → ((x : Bor A) → o ≡ Some x → ⊥) → xs ≡ []
no_first o [] at none = refl
no_first (Some r) (x ∷ xs) at none = absurd (none r refl)
no_first None (x ∷ xs) at none = let clash : None ≡ Some x = at in absurd (cc)
