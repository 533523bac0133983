-- What each step of a format leaves.
use Rattle.std.proofs.Common.{◌≡◌, ◌≢◌, ◌<◌, ◌≤◌, ◌⊎◌, ℕ, zero, suc, ◌+◌, ◌-◌, List, [], ◌∷◌, length, take, drop, inl, inr, ⊎_elim, refl, sym, ◌∙◌, ap, subst, arith, get_or, Some}
use Rattle.std.specs.Prelude.{Result, Ok, Err, OnOk, Bool, true, false, ◌==◌}
use Rattle.std.proofs.lemmas.Bool.{cases_lt}
use Rattle.std.proofs.lemmas.Bool.Decides.{nat_tests}
use Rattle.std.proofs.lemmas.List.{get_or-take, get_or-drop, length-take-le, length-drop}
use Rattle.base_types.specs.Image.{byte_at, bytes_from, Torn, Holds}
use Rattle.base_types.specs.View.{View}
use Rattle.base_types.specs.Crash.{IsQuiet, IsSettled, ChangesBy}
use Rattle.base_outside.specs.Runs.{LeavesOnly}
use Rattle.base_outside.proofs.Runs.{weaker, changes_settled}
use Rattle.base_outside.proofs.Image.{bytes_from-same, get_or-bytes_from}
use Rattle.disk_layout.specs.declared.half.Header.{Header}
use Rattle.disk_layout.specs.declared.superblock.Superblock.{Superblock}
use Rattle.disk_layout.specs.Numbers.{number_at}
use Rattle.disk_layout.specs.Places.{entry_start, page_start, in_place, pages_of}
use Rattle.disk_layout.specs.Server.{IsNewServer}
use Rattle.disk_layout.specs.Superblock.{layout_name, IsSuperblock, IsMarked}
use Rattle.disk_layout.specs.Entry.{SameButGates}
use Rattle.disk_layout.specs.Half.{header_from, header_at, half_of, used_half, HasNoLog}
use Rattle.disk_layout.proofs.Bytes.{number-same}
use Rattle.disk_layout.proofs.Words.{superblock_same}
use Rattle.disk_layout.proofs.Steps.{zeroth_used}
use Rattle.disk_log.specs.Format.{SameAround, IsMarkedFirst, HasHeaders, SameButHeaders, SameLog, HasFront, SameButFront, HasNewPages, IsPrepared, first_half, IsStaged, IsLeftOfFormat}
use Rattle.disk_log.specs.Recovered.{blank_page}
use Rattle.disk_log.specs.Switch.{ClosesGates}

pub then_around : (end : ℕ) (a b c : List ℕ) → SameAround end a b → SameAround end b c → SameAround end a c
then_around end a b c one two at out = two at out ∙ one at out

pub around_none : (end : ℕ) (a : List ℕ) → SameAround end a a
around_none end a at out = refl

pub around_wider : (end more : ℕ) (a b : List ℕ) → end ≤ more → SameAround end a b → SameAround more a b
around_wider end more a b le same at out =
    same at (⊎_elim (λ low. inl low) (λ high. inr (omega (arith, le, high))) out)

-- a range behind the first page that was written
pub torn_around : (at n end : ℕ) (a b : List ℕ) → Torn at n a b → 512 ≤ at → at + n ≤ end → SameAround end a b
torn_around at n end a b torn low high k out =
    ⊎_elim (λ below. torn.before k (omega (arith, below, low))) (λ above. torn.after k (omega (arith, above, high))) out

pub then_front : (a b c : List ℕ) → SameButFront a b → SameButFront b c → SameButFront a c
then_front a b c one two at out = two at out ∙ one at out

pub front_none : (a : List ℕ) → SameButFront a a
front_none a at out = refl

-- a range in the first page that was written, behind its first byte
pub torn_front : (n : ℕ) (a b : List ℕ) → Torn 1 n a b → n ≤ 511 → SameButFront a b
torn_front n a b torn few k out =
    ⊎_elim (λ (is : k ≡ 0). torn.before k (omega (arith, is))) (λ above. torn.after k (omega (arith, above, few))) out

-- what a change made of the bytes of a settled disk
pub changed_image : (step : List ℕ → List ℕ → Type 0) (old new : View) → IsSettled old → ChangesBy step old new
    → new.may_leave new.image → step old.image new.image
changed_image step old new settled changes reads =
    let from = changes.now new.image reads in
    subst (λ (d : List ℕ). step d new.image) (settled from.0 from.1) from.2

-- both facts of a call that succeeded
pub both_ok : {T E : Type 0} (A B : Type 0) (result : Result T E) → OnOk result A → OnOk result B → OnOk result (A × B)
both_ok A B (Ok x) a b = (a, b)
both_ok A B (Err e) a b = tt

-- no byte changed
pub torn_same : (at n : ℕ) (image : List ℕ) → Torn at n image image
torn_same at n image = record { before = λ k lt. refl; after = λ k le. refl; no_shorter = omega arith; no_longer = omega arith }

-- a byte of a piece that was written
held_byte : (at j : ℕ) (piece image : List ℕ) → j < length piece → Holds at piece image → byte_at image (at + j) ≡ byte_at piece j
held_byte at j piece image lt holds = sym (get_or-bytes_from image at (length piece) j lt) ∙ ap (λ (l : List ℕ). get_or l j 0) holds.inside

-- the superblock behind its gate
pub front_written : (superblock : Superblock) (page image : List ℕ) (m : ℕ) → IsSuperblock superblock page → length page ≡ 512 → m ≡ 511 → Holds 1 (take m (drop 1 page)) image → HasFront superblock image
front_written superblock page image m is size many holds c gate same = superblock_same superblock page c each is
  where
    rest : length (take m (drop 1 page)) ≡ 511
    rest = let e = length-drop 1 page in length-take-le m (drop 1 page) (omega arith) ∙ many

    each : (at : ℕ) → at < 512 → byte_at c at ≡ byte_at page at
    each zero lt = gate ∙ sym is.named.gate
    each (suc k) lt =
        let e : suc k ≡ 1 + k = omega arith in
        same (suc k) (omega arith) (omega arith) ∙ ap (byte_at image) e ∙ held_byte 1 k (take m (drop 1 page)) image (let f = rest in omega arith) holds
        ∙ get_or-take m (drop 1 page) k 0 (omega arith) ∙ get_or-drop 1 page k 0 ∙ ap (byte_at page) (sym e)

pub front_named : (superblock : Superblock) (page image : List ℕ) (m : ℕ) → IsSuperblock superblock page → length page ≡ 512 → m ≡ 511 → Holds 1 (take m (drop 1 page)) image → bytes_from image 1 8 ≡ layout_name
front_named superblock page image m is size many holds = bytes_from-same image page 1 8 each ∙ is.named.name
  where
    rest : length (take m (drop 1 page)) ≡ 511
    rest = let e = length-drop 1 page in length-take-le m (drop 1 page) (omega arith) ∙ many

    each : (k : ℕ) → 1 ≤ k → k < 1 + 8 → byte_at image k ≡ byte_at page k
    each k from below =
        let e : k ≡ 1 + (k - 1) = omega arith in
        ap (byte_at image) e ∙ held_byte 1 (k - 1) (take m (drop 1 page)) image (let f = rest in omega arith) holds
        ∙ get_or-take m (drop 1 page) (k - 1) 0 (omega arith) ∙ get_or-drop 1 page (k - 1) 0 ∙ ap (byte_at page) (sym e)

-- the two headers
pub headers_written : (bytes a b c : List ℕ) → length bytes ≡ 8 → byte_at a 3146752 ≡ 0 → number_at 8 0 bytes ≡ 1 → Holds 520 bytes b → Torn 520 (length bytes) a b → Torn 512 1 b c → byte_at c 512 ≡ 1 → HasHeaders c
headers_written bytes a b c size shut number holds torn opening opened = record {
  zeroth =
      let generation : number_at 8 520 c ≡ 1 = number-same 8 520 0 c bytes (λ j lt. opening.after (520 + j) (omega arith) ∙ held_byte 520 j bytes b (omega arith) holds ∙ (let e : j ≡ 0 + j = omega arith in ap (byte_at bytes) e)) ∙ number in
      λ j. record { is_open = opened j == 1; generation = generation j };
  first = λ is. let e = opening.after 3146752 (omega arith) in let f = torn.after 3146752 (omega arith) in absurd (omega (arith, e, f, is, shut));
}

pub headers_beside : (n : ℕ) (old a b c : List ℕ) → n ≡ 8 → Torn 3146752 1 old a → Torn 520 n a b → Torn 512 1 b c → SameButHeaders old c
headers_beside n old a b c size one two three at out =
    three_apart out
  where
    three_apart : (at < 512) ⊎ ((528 ≤ at) × (at < 3146752)) ⊎ (3146768 ≤ at) → byte_at c at ≡ byte_at old at
    three_apart (inl low) = three.before at low ∙ two.before at (omega arith) ∙ one.before at (omega arith)
    three_apart (inr (inl mid)) = three.after at (let e = mid.0 in omega arith) ∙ two.after at (let e = mid.0 in omega arith) ∙ one.before at mid.1
    three_apart (inr (inr high)) = three.after at (omega arith) ∙ two.after at (omega arith) ∙ one.after at (omega arith)

-- the server's page where it stands
pub server_written : (page image : List ℕ) → length page ≡ 512 → IsNewServer page → Holds 6292992 page image → IsNewServer (in_place image 0)
server_written page image size is holds = subst (λ (l : List ℕ). IsNewServer l) (sym (ap (λ (n : ℕ). bytes_from image 6292992 n) (sym size) ∙ holds.inside)) is

-- the server's page over zeros
pub new_pages : (n : ℕ) (a b : List ℕ) → ((p : ℕ) → 1 ≤ p → in_place b p ≡ in_place a p) → ((p : ℕ) → p < n → in_place a p ≡ blank_page) → IsNewServer (in_place b 0) → HasNewPages n b
new_pages n a b others zeros server = record { server = server; zeros = λ p some lt. others p some ∙ zeros p lt }

-- a page that is zero
pub zeros_more : (n : ℕ) (a b : List ℕ) → ((p : ℕ) → p < n → in_place b p ≡ in_place a p) → in_place b n ≡ blank_page → ((p : ℕ) → p < n → in_place a p ≡ blank_page) → (p : ℕ) → p < n + 1 → in_place b p ≡ blank_page
zeros_more n a b others here done p lt = by (cases_lt p n)
  where
    by : (p < n) ⊎ (n ≤ p) → in_place b p ≡ blank_page
    by (inl below) = others p below ∙ done p below
    by (inr le) = let e : p ≡ n = omega arith in ap (in_place b) e ∙ here

pub gates_around : (start : ℕ) (a b : List ℕ) → 512 ≤ start → start ≤ 3146752 → SameButGates start 0 2048 a b
    → SameAround 6292992 a b
gates_around start a b low high same k out =
    ⊎_elim (λ below. same.below k (omega (arith, below, low))) (λ above. same.above k (omega (arith, above, high))) out

headers_still : (a b : List ℕ) → SameLog a b → HasHeaders a → HasHeaders b
headers_still a b same has = record {
  zeroth = (λ j. record { is_open = same 512 (omega arith) j == 1; generation = number-same 8 520 520 b a (λ i lt. same (520 + i) (omega arith)) j }) ∙ has.zeroth;
  first = λ is. has.first (sym (same 3146752 (omega arith)) ∙ is);
}

-- both halves and the pages
pub is_prepared : (pages : ℕ) (a b c d : List ℕ) → ClosesGates 512 0 2048 a → SameButGates 3146752 0 2048 a b → SameButHeaders b c → HasHeaders c → SameLog c d → HasNewPages pages d → IsPrepared pages d
is_prepared pages a b c d shut gates headers has log zeros = record {
  headers = headers_still c d log has;
  closed = λ i from below is. shut i from below
      (sym (gates.below (entry_start 512 i) (omega arith)) ∙ sym (headers (entry_start 512 i) (inr (inl (omega arith, omega arith)))) ∙ sym (log (entry_start 512 i) (omega arith)) ∙ is);
  new_pages = zeros;
}

used_first : (pages : ℕ) (c : List ℕ) → header_from c 512 ≡ record { is_open = true; generation = 1 } → (byte_at c 3146752 == 1) ≡ false → used_half pages c ≡ Some (half_of pages 0 1)
unfolding used_half
used_first pages c zeroth shut =
    zeroth_used pages (header_at c 0) (header_at c 1) (ap (λ (h : Header). h.is_open) zeroth) (inl shut) ∙ (λ j. Some (half_of pages 0 (ap (λ (h : Header). h.generation) zeroth j)))

-- all but the gate of the superblock
pub is_staged : (superblock : Superblock) (end : ℕ) (a b d : List ℕ) → IsPrepared (pages_of superblock.blocks) a → SameAround end b a → HasFront superblock b → d ≡ a → IsStaged superblock d
is_staged superblock end a b d prepared same front is c torn gate = record {
  front = front c gate (λ at from below. torn.after at (omega arith) ∙ ap (λ (l : List ℕ). byte_at l at) is ∙ same at (inl below));
  log = record {
    place = inl refl;
    used = used;
    entries = record { stand = λ k lt. absurd (omega arith); opened = λ k lt. absurd (omega arith); closed = λ i from below o. prepared.closed i from below (sym (behind (entry_start 512 i) (omega arith)) ∙ o) };
  };
  new_pages = record {
    server = subst (λ (l : List ℕ). IsNewServer l) (sym (place 0)) prepared.new_pages.server;
    zeros = λ p some lt. place p ∙ prepared.new_pages.zeros p some lt;
  };
}
  where
    behind : (at : ℕ) → 512 ≤ at → byte_at c at ≡ byte_at a at
    behind at le = torn.after at (omega arith) ∙ ap (λ (l : List ℕ). byte_at l at) is

    place : (p : ℕ) → in_place c p ≡ in_place a p
    place p = bytes_from-same c a (page_start p) 512 (λ k from below. behind k (omega arith))

    zeroth : header_from c 512 ≡ record { is_open = true; generation = 1 }
    zeroth = (λ j. record { is_open = behind 512 (omega arith) j == 1; generation = number-same 8 520 520 c a (λ i lt. behind (520 + i) (omega arith)) j }) ∙ prepared.headers.zeroth

    shut : (byte_at c 3146752 == 1) ≡ false
    shut = let e : byte_at c 3146752 ≢ 1 = λ o. prepared.headers.first (sym (behind 3146752 (omega arith)) ∙ o) in grind (arith, nat_tests)

    used : used_half (pages_of superblock.blocks) c ≡ Some (first_half superblock)
    used = used_first (pages_of superblock.blocks) c zeroth shut

-- a crash that leaves the gate closed leaves no log
pub no_log : (c : List ℕ) → byte_at c 0 ≢ 1 → HasNoLog 0 c
no_log c shut = inl (refl, λ superblock is. shut is.named.gate)

pub at_gate : (superblock : Superblock) (image c : List ℕ) → IsStaged superblock image → Torn 0 1 image c → IsLeftOfFormat superblock c
at_gate superblock image c staged torn = by (byte_at c 0 == 1) refl
  where
    by : (b : Bool) → (byte_at c 0 == 1) ≡ b → IsLeftOfFormat superblock c
    by true is = inr (staged c torn (grind (arith, nat_tests, is)))
    by false is = inl (no_log c (λ e. absurd (grind (arith, nat_tests, is, e))))

-- a gate that stood closed before a quiet call
pub shut_still : (old new : View) → IsQuiet old new → byte_at old.image 0 ≢ 1 → byte_at new.image 0 ≢ 1
shut_still old new quiet shut is = shut (sym (ap (λ (l : List ℕ). byte_at l 0) quiet.image) ∙ is)

module _ (superblock : Superblock) (old new : View) (shut : byte_at old.image 0 ≢ 1) (settled : IsSettled old) where
  -- changes behind a closed gate leave no log
  pub stage_leaves : (end : ℕ) → ChangesBy (SameAround end) old new → LeavesOnly (IsLeftOfFormat superblock) old new
  stage_leaves end changes =
      weaker (changes_settled _ settled changes) (λ d same. inl (no_log d (λ is. shut (sym (same 0 (inl (omega arith))) ∙ is))))

  -- and so do those of the first page but for its gate
  pub mark_leaves : ChangesBy SameButFront old new → LeavesOnly (IsLeftOfFormat superblock) old new
  mark_leaves changes =
      weaker (changes_settled _ settled changes) (λ d same. inl (no_log d (λ is. shut (sym (same 0 (inl refl)) ∙ is))))

  pub mark_first : (image : List ℕ) → old.image ≡ image → ChangesBy SameButFront old new → LeavesOnly (IsMarkedFirst superblock image) old new
  mark_first image is changes =
      weaker (changes_settled _ settled changes) (λ d same. inl (subst (λ (l : List ℕ). SameButFront l d) is same))

  -- behind the mark it stays
  pub stage_marked : (image : List ℕ) (end : ℕ) → bytes_from old.image 1 8 ≡ layout_name → ChangesBy (SameAround end) old new → LeavesOnly (IsMarkedFirst superblock image) old new
  stage_marked image end named changes =
      weaker (changes_settled _ settled changes) (λ d same. inr (inl (
        (λ is. shut (sym (same 0 (inl (omega arith))) ∙ is)),
        bytes_from-same d old.image 1 8 (λ k from below. same k (inl (omega arith))) ∙ named,
      )))

-- what a quiet call leaves of it
pub front_still : (superblock : Superblock) (a b : List ℕ) → b ≡ a → HasFront superblock a → HasFront superblock b
front_still superblock a b is front = subst (λ (l : List ℕ). HasFront superblock l) (sym is) front

pub named_still : (a b : List ℕ) → b ≡ a → bytes_from a 1 8 ≡ layout_name → bytes_from b 1 8 ≡ layout_name
named_still a b is named = ap (λ (l : List ℕ). bytes_from l 1 8) is ∙ named

-- the gate still stands closed
pub front_shut : (a b : List ℕ) → SameButFront a b → byte_at a 0 ≢ 1 → byte_at b 0 ≢ 1
front_shut a b same shut is = shut (sym (same 0 (inl refl)) ∙ is)

-- the mark in what stands around
pub around_named : (end : ℕ) (a b : List ℕ) → SameAround end a b → bytes_from a 1 8 ≡ layout_name → bytes_from b 1 8 ≡ layout_name
around_named end a b same named = bytes_from-same b a 1 8 (λ k from below. same k (inl (omega arith))) ∙ named

-- the gate is written
pub gate_marked : (superblock : Superblock) (first image c : List ℕ) → bytes_from image 1 8 ≡ layout_name → IsStaged superblock image → Torn 0 1 image c → IsMarkedFirst superblock first c
gate_marked superblock first image c named staged torn = by (byte_at c 0 == 1) refl
  where
    by : (b : Bool) → (byte_at c 0 == 1) ≡ b → IsMarkedFirst superblock first c
    by true is = inr (inr (staged c torn (grind (arith, nat_tests, is))))
    by false is = inr (inl (
      (λ e. absurd (grind (arith, nat_tests, is, e))),
      bytes_from-same c image 1 8 (λ k from below. torn.after k (omega arith)) ∙ named,
    ))

-- nothing was written behind the pages
pub within_end : (end : ℕ) (old a b c d : List ℕ) → 512 ≤ end → a ≡ old → SameButFront a b → SameAround end b c → Torn 0 1 c d
    → (at : ℕ) → end ≤ at → byte_at d at ≡ byte_at old at
within_end end old a b c d low is front around torn at le =
    torn.after at (omega (arith, low, le)) ∙ around at (inr le) ∙ front at (inr (omega (arith, low, le))) ∙ ap (λ (l : List ℕ). byte_at l at) is
