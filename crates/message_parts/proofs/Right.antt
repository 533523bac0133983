-- When reading is right: what is read is spelled so, what is spelled so is read whatever follows, and where reading
-- stops the bytes before that place begin a spelling, and with the next one they don't.
use Rattle.std.proofs.Common.{get_or, suc, ◌≡◌, ℕ, ◌<◌, true, List, [], ◌∷◌, ◌++◌, length, Ok, Err}
use Rattle.message_parts.specs.Spelled.{Spelled}
use Rattle.message_parts.specs.Reading.{Reading}

-- these bytes spell this value, which is one of those that are looked at
pub record Spells {T : Type 0} (among : T → Type 0) (spelled : T → Spelled) (t : T) (bytes : List ℕ) : Type 0 where
  pub chosen : among t
  pub fits : (spelled t).fits ≡ true
  pub whole : bytes ≡ (spelled t).bytes

-- some value's spelling begins so
abbrev pub Begins : {T : Type 0} → (T → Type 0) → (T → Spelled) → List ℕ → Type 0
Begins {T} among spelled front = (t : T) × (more : List ℕ) × Spells among spelled t (front ++ more)

pub record Stops {T : Type 0} (among : T → Type 0) (spelled : T → Spelled) (bytes : List ℕ) (left : ℕ) : Type 0 where
  pub front : List ℕ
  pub back : List ℕ
  pub split : bytes ≡ front ++ back
  pub rest : length back ≡ left
  pub begun : Begins among spelled front
  pub longest : (byte : ℕ) (more : List ℕ) → back ≡ byte ∷ more → Begins among spelled (front ++ byte ∷ []) → ⊥

abbrev pub AreBytes : List ℕ → Type 0
AreBytes [] = Unit {0}
AreBytes (b ∷ bs) = (b < 256) × AreBytes bs

pub record Found {T B : Type 0} (among : T → Type 0) (spelled : T → Spelled) (made : T → B) (bytes : List ℕ) (b : B) (rest : List ℕ) : Type 0 where
  pub value : T
  pub front : List ℕ
  pub spells : Spells among spelled value front
  pub is : b ≡ made value
  pub split : bytes ≡ front ++ rest

pub record Right {T B : Type 0} (among : T → Type 0) (spelled : T → Spelled) (made : T → B) (read : List ℕ → Reading B) : Type 0 where
  pub some : (t : T) × (bytes : List ℕ) × Spells among spelled t bytes
  pub again : (t : T) (bytes rest : List ℕ) → Spells among spelled t bytes → read (bytes ++ rest) ≡ Ok (made t, rest)
  pub found : (bytes : List ℕ) (b : B) (rest : List ℕ) → AreBytes bytes → read bytes ≡ Ok (b, rest) → Found among spelled made bytes b rest
  pub stops : (bytes : List ℕ) (left : ℕ) → AreBytes bytes → read bytes ≡ Err left → Stops among spelled bytes left

-- each value of a part that stands alone
abbrev pub Any : {T : Type 0} → T → Type 0
Any t = Unit {0}

abbrev pub same : {T : Type 0} → T → T
same t = t

-- reading gives each value itself
abbrev pub IsRight : {T : Type 0} → (T → Spelled) → (List ℕ → Reading T) → Type 0
IsRight spelled read = Right Any spelled same read

-- as the type of bytes says it
pub are_bytes : (bytes : List ℕ) → ((i : ℕ) → get_or bytes i 0 < 256) → AreBytes bytes
are_bytes [] h = tt
are_bytes (b ∷ bs) h = (h 0, are_bytes bs (λ i. h (suc i)))
