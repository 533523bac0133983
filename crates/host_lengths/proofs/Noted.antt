-- Files noted of give-backs, where lengths change.
use Rattle.std.proofs.Common.{◌≡◌, ℕ, Bool, true, false, cond, ◌&&◌, ◌||◌, ◌==◌, List, [], ◌∷◌, map}
use Rattle.std.proofs.Common.{Option, Some, None, refl, sym, ap, ◌∙◌, subst, arith, if◌then◌else◌, is_some, unwrap_or}
use Rattle.std.specs.List.{filter}
use Rattle.std.specs.Map.{lookup}
use Rattle.std.proofs.lemmas.Bool.{and_parts, eqb-true}
use Rattle.std.proofs.lemmas.Bool.Decides.{nat_tests}
use Rattle.base_types.specs.declared.ids.FilesetId.{FilesetId}
use Rattle.host_lengths.specs.Giving.{is_given, known_by, with_given}
use Rattle.host_lengths.specs.Lengths.{AreLengths, AreNoted, FileKey, GiveKey, file_key, file_of, give_key, keyed}
use Rattle.host_lengths.specs.Lengths.{same_file, same_give}
use Rattle.host_lengths.specs.declared.given.Given.{Given}
use Rattle.host_lengths.proofs.Keyed.{KeepsOthers, file_itself, rekeyed}

differ : true ≡ false → ⊥
differ e = absurd (cc)

none_some : {X : Type 0} (x : X) → None ≡ Some x → ⊥
none_some x e = absurd (cc)

in_some : {X : Type 0} (x y : X) → Some x ≡ Some y → x ≡ y
in_some x y e = ap (λ o. unwrap_or o x) e

both_ways : (b : Bool) → (b ≡ true → ⊥) → b ≡ false
both_ways true ne = absurd (ne refl)
both_ways false ne = refl

either_false : (a b : Bool) → (a || b) ≡ false → (a ≡ false) × (b ≡ false)
either_false true b e = absurd (differ e)
either_false false b e = (refl, e)

pub give_itself : (a : GiveKey) → same_give a a ≡ true
give_itself a = numbers_same a.0 a.1
  where
    numbers_same : (x y : ℕ) → ((x == x) && (y == y)) ≡ true
    numbers_same x y = grind (arith, nat_tests)

pub give_is : (a b : GiveKey) → same_give a b ≡ true → a ≡ b
give_is a b h =
    let both = and_parts (a.0 == b.0) (a.1 == b.1) h in
    let x : a.0 ≡ b.0 = eqb-true a.0 b.0 both.0 in
    let y : a.1 ≡ b.1 = eqb-true a.1 b.1 both.1 in λ i. (x i, y i)

-- one give-back has this file now, or none, and each other the same as before
abbrev pub PutsFile : List (GiveKey × FileKey) → GiveKey → Option FileKey → List (GiveKey × FileKey) → Type 0
PutsFile old key file new =
    (q : GiveKey) → lookup (same_give q) new ≡ cond (same_give key q) file (lookup (same_give q) old)

module _ (old new : List (GiveKey × FileKey)) (key : GiveKey) (o : Option FileKey) (puts : PutsFile old key o new) where
  file_here : file_of new key ≡ o
  file_here = puts key ∙ ap (λ b. cond b o (file_of old key)) (give_itself key)

  file_other : (other : GiveKey) → (key ≡ other → ⊥) → file_of new other ≡ file_of old other
  file_other other ne =
      puts other
      ∙ ap (λ b. cond b o (file_of old other)) (both_ways (same_give key other) (λ e. ne (give_is key other e)))

-- a give-back of which no file was noted
module _ (old new : List (GiveKey × FileKey)) (key : GiveKey) (file : FileKey) (none : file_of old key ≡ None)
    (puts : PutsFile old key (Some file) new) where
  pub noted_more : (gs : List Given) → AreNoted gs old → AreNoted gs new
  noted_more [] are = are
  noted_more (g ∷ gs) are = (
    λ unknown.
        let was = are.0 unknown in
        file_other old new key (Some file) puts (give_key g)
        (λ e. none_some (file_key g.fid) (sym none ∙ ap (file_of old) e ∙ was)) ∙ was,
    noted_more gs are.1,
  )

pub noted_put : (files : List (GiveKey × FileKey)) (new : Given) →
    file_of files (give_key new) ≡ Some (file_key new.fid) → (gs : List Given) → AreNoted gs files → AreNoted (with_given new gs) files
noted_put files new is [] are = (λ unknown. is, are)
noted_put files new is (g ∷ gs) are = by_test (is_given new.fid g) (noted_put files new is gs are.1)
  where
    by_test : (b : Bool) → AreNoted (with_given new gs) files →
        AreNoted (if b then new ∷ gs else g ∷ with_given new gs) files
    by_test true rest = (λ unknown. is, are.1)
    by_test false rest = (are.0, rest)

pub noted_here : (old new : List (GiveKey × FileKey)) (given : Given) (key : GiveKey) (file : FileKey) →
    key ≡ give_key given → file ≡ file_key given.fid → PutsFile old key (Some file) new →
    file_of new (give_key given) ≡ Some (file_key given.fid)
noted_here old new given key file k f puts =
    ap (file_of new) (sym k) ∙ file_here old new key (Some file) puts ∙ ap Some f

pub noted_kept : (test : Given → Bool) (files : List (GiveKey × FileKey)) (gs : List Given) → AreNoted gs files →
    AreNoted (filter test gs) files
noted_kept test files [] are = are
noted_kept test files (g ∷ gs) are = by_test (test g) (noted_kept test files gs are.1)
  where
    by_test : (b : Bool) → AreNoted (filter test gs) files →
        AreNoted (cond b (g ∷ filter test gs) (filter test gs)) files
    by_test true rest = (are.0, rest)
    by_test false rest = rest

-- ---- a give-back is known as applied
module _ (fileset : FilesetId) (number : ℕ) where
  abbrev pub its_key : GiveKey
  its_key = (fileset.0, number)

  abbrev is_its : Given → Bool
  is_its g = (g.fid.fileset.0 == fileset.0) && (g.number == number)

  its : (g : Given) → is_its g ≡ true → give_key g ≡ its_key
  its g e = give_is (give_key g) its_key e

  its_own : (g : Given) → its_key ≡ give_key g → is_its g ≡ true
  its_own g e = ap (same_give (give_key g)) e ∙ give_itself (give_key g)

  pub its_fid : (g : Given) → (known_by fileset number g).fid ≡ g.fid
  its_fid g = refl

  known_or_not : {P : Type 0} (b : Bool) → (b ≡ true → P) → (b ≡ false → P) → P
  known_or_not true t f = t refl
  known_or_not false t f = f refl

  -- what is known stays so, and so does what came with another
  stays : (g : Given) → (g.known ≡ false → is_its g ≡ false) → known_by fileset number g ≡ g
  stays g h =
      ap (λ (k : Bool). record g { known = k }) (known_or_not g.known
      (λ e. ap (λ b. b || is_its g) e ∙ sym e)
      (λ e. ap (λ b. b || is_its g) e ∙ h e ∙ sym e))

  module _ (files : List (GiveKey × FileKey)) where
    -- where no file is noted of it, nothing changes; else no length but its file's
    pub none_marked : file_of files its_key ≡ None → (gs : List Given) → AreNoted gs files →
        map (known_by fileset number) gs ≡ gs
    none_marked none [] are = refl
    none_marked none (g ∷ gs) are =
        ap (λ h. h ∷ map (known_by fileset number) gs) (stays g (λ unknown. both_ways (is_its g) (λ t.
        none_some (file_key g.fid) (sym none ∙ ap (file_of files) (sym (its g t)) ∙ are.0 unknown))))
        ∙ ap (λ hs. g ∷ hs) (none_marked none gs are.1)

    pub others_kept : (key : FileKey) → file_of files its_key ≡ Some key → (gs : List Given) → AreNoted gs files →
        KeepsOthers (known_by fileset number) its_fid key gs
    others_kept key at [] are = tt
    others_kept key at (g ∷ gs) are = (
      λ apart. stays g (λ unknown. both_ways (is_its g) (λ t.
          let is : key ≡ file_key g.fid =
          in_some key (file_key g.fid) (sym at ∙ ap (file_of files) (sym (its g t)) ∙ are.0 unknown) in
          differ (sym (ap (λ k. same_file k (file_key g.fid)) is ∙ file_itself (file_key g.fid)) ∙ apart))),
      others_kept key at gs are.1,
    )

    pub noted_marked : (new : List (GiveKey × FileKey)) → PutsFile files its_key None new → (gs : List Given) →
        AreNoted gs files → AreNoted (map (known_by fileset number) gs) new
    noted_marked new puts [] are = are
    noted_marked new puts (g ∷ gs) are = (
      λ unknown.
          let both = either_false g.known (is_its g) unknown in
          file_other files new its_key None puts (give_key g) (λ e. differ (sym (its_own g e) ∙ both.1))
          ∙ are.0 both.0,
      noted_marked new puts gs are.1,
    )

-- entries that stand under their files, of which all is noted
pub lengths_are : (es : List (FileKey × Given)) (gs : List Given) (files : List (GiveKey × FileKey)) → es ≡ keyed gs →
    AreNoted gs files → AreLengths es files
lengths_are es gs files e noted =
    let r = rekeyed es gs e in record { keys = r.0; noted = subst (λ hs. AreNoted hs files) (sym r.1) noted }

pub nothing_there : {X : Type 0} (o : Option X) → is_some o ≡ false → o ≡ None
nothing_there None e = refl
nothing_there (Some x) e = absurd (differ e)
