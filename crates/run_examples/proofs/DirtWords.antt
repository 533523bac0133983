-- What a host has written and not given back, as plain data.
use Rattle.std.proofs.Common.{Bool, List, None, Option, Some, [], arith, false, inl, inr, length, refl, subst}
use Rattle.std.proofs.Common.{suc, sym, true}
use Rattle.std.proofs.Common.{if◌then◌else◌, ℕ, zero, ◌&&◌, ◌+◌, ◌++◌, ◌||◌, ◌∷◌, ◌≡◌, ◌≤◌, ◌<◌, ◌⊎◌}
use Rattle.std.proofs.lemmas.Bool.{and_parts, and_from, or_cases, or_left, or_right, cases_lt, leb-true, ltb-true}
use Rattle.std.specs.Prelude.{not, flat_map, nat_le, nat_lt, is_some}
use Rattle.std.specs.List.{filter, list_all, list_any}
use Rattle.base_types.specs.Ids.{same_fid}
use Rattle.base_types.specs.Spans.{has_byte}
use Rattle.base_types.specs.declared.ids.Fid.{Fid}
use Rattle.base_types.specs.declared.span.Span.{Span}
use Rattle.tree_calls.specs.declared.call.Call.{Call}
use Rattle.tree_calls.specs.declared.call.Call.TheVariants.{Write}
use Rattle.token_types.specs.declared.token.Kind.{Kind}
use Rattle.token_types.specs.declared.token.Kind.TheVariants.{Bytes, Status}
use Rattle.token_types.specs.declared.token.Token.{Token}
use Rattle.message_types.specs.declared.giving.Give.{Give}
use Rattle.tree_laws.specs.Parts.Part.{Size}
use Rattle.run_rules.specs.Past.{In}
use Rattle.run_rules.specs.Tokens.{number_of}
use Rattle.run_rules.specs.Views.{ByteIsDirty, HasLength, IsClean, IsDirtyUnder, IsLastLength, LengthIsClean}
use Rattle.run_rules.specs.Views.{LengthIsDirty, TakesStatus, UpdatesByte, UpdatesStatus, gives_at, is_dirty, sees}
use Rattle.run_rules.specs.Views.{writes_at, writes_byte, writes_to}
use Rattle.run_rules.specs.declared.applied.Answer.{Answer}
use Rattle.run_rules.specs.declared.step.Step.{Step}
use Rattle.run_examples.proofs.Tests.{implies, so, is_not, not_is, at_all, some_in, any_of, in_front, in_back}
use Rattle.run_examples.proofs.Tests.{in_split}
use Rattle.run_examples.proofs.Tests.{in_filter, from_filter, in_flat, if_in, in_if, fid_is, fids}
use Rattle.run_examples.proofs.Tests.{same_kind, kind_is}
use Rattle.run_examples.proofs.Tests.{kinds, same_length, length_is, length_same}
use Rattle.run_examples.proofs.Words.{made, made_in, in_made, is_known, known_yes, known_is, hand, hand_in, in_hand}
use Rattle.run_examples.proofs.LabelWords.{all_so}

-- the positions of bytes that were written
unfoldable pub range : ℕ → ℕ → List ℕ
range from zero = []
range from (suc n) = from ∷ range (suc from) n

first : (from at : ℕ) → from ≤ at → (at ≡ from) ⊎ (suc from ≤ at)
unfolding range
first from at a = elim (cases_lt from at) [ inl p ↦ inr (omega arith) | inr q ↦ inl (omega arith) ]

pub in_range : (n from at : ℕ) → from ≤ at → at < from + n → In at (range from n)
unfolding range
in_range zero from at a b = absurd (omega arith)
in_range (suc n) from at a b = elim (first from at a) [
  | inl p ↦ inl p
  | inr q ↦ inr (in_range n (suc from) at q
      (omega arith))
]

unfoldable pub written_at : Call → List ℕ
written_at (Write place from bytes) = range from (length bytes)
written_at _ = []

written_in : (call : Call) (at : ℕ) → writes_byte call at ≡ true → In at (written_at call)
unfolding range written_at
written_in (Write place from bytes) at e =
    let p = and_parts (nat_le from at) (nat_lt at (from + length bytes)) e in
    in_range (length bytes) from at (leb-true from at p.0) (ltb-true at (from + length bytes) p.1)
written_in call at e = absurd (cc)

unfoldable pub spots_of : Step → Fid → List ℕ
spots_of s fid = if writes_to s fid then flat_map (λ a. written_at a.call) s.answers else []

unfoldable pub spots : List Step → Fid → List ℕ
spots [] fid = []
spots (s ∷ past) fid = spots_of s fid ++ spots past fid

spot_now : (s : Step) (fid : Fid) (at : ℕ) → writes_at s fid at ≡ true → In at (spots_of s fid)
unfolding range written_at spots_of spots
spot_now s fid at e =
    let p = and_parts (writes_to s fid) (list_any (λ a. writes_byte a.call at) s.answers) e in
    let q = some_in (λ a. writes_byte a.call at) s.answers p.1 in
    in_if (writes_to s fid) at (flat_map (λ a. written_at a.call) s.answers) p.0
    (in_flat (λ (a : Answer). written_at a.call) s.answers q.0 at q.1 (written_in q.0.call at q.2))

pub dirty_in : (past : List Step) (fid : Fid) (at : ℕ) → is_dirty past fid at ≡ true → In at (spots past fid)
unfolding range written_at spots_of spots
dirty_in [] fid at e = absurd (cc)
dirty_in (s ∷ past) fid at e =
    let p = and_parts (writes_at s fid at || is_dirty past fid at) (not (gives_at s fid at)) e in
    elim (or_cases (writes_at s fid at) (is_dirty past fid at) p.0) [
      | inl x ↦ in_front at (spots_of s fid) (spots past fid) (spot_now s fid at x)
      | inr y ↦ in_back at (spots_of s fid) (spots past fid) (dirty_in past fid at y)
    ]

-- tokens for update
unfoldable pub kind_updates : Kind → ℕ → Bool
kind_updates (Bytes update span) at = update && has_byte span at
kind_updates _ at = false

unfoldable pub updates_byte : Token → Fid → ℕ → Bool
updates_byte t fid at = same_fid t.fid fid && kind_updates t.kind at

kind_updates_yes : (kind : Kind) (at : ℕ) → kind_updates kind at ≡ true
    → (span : Span) × (kind ≡ Bytes true span) × (has_byte span at ≡ true)
unfolding range written_at spots_of spots kind_updates updates_byte
kind_updates_yes (Bytes update span) at e =
    let p = and_parts update (has_byte span at) e in (span, (let q = p.0 in λ i. Bytes (q i) span), p.1)
kind_updates_yes kind at e = absurd (cc)

pub updates_yes : (t : Token) (fid : Fid) (at : ℕ) → updates_byte t fid at ≡ true → UpdatesByte t fid at
unfolding range written_at spots_of spots kind_updates updates_byte
updates_yes t fid at e =
    let p = and_parts (same_fid t.fid fid) (kind_updates t.kind at) e in
    let q = kind_updates_yes t.kind at p.1 in (q.0, fid_is t.fid fid p.0, q.1, q.2)

pub updates_is : (t : Token) (fid : Fid) (at : ℕ) → UpdatesByte t fid at → updates_byte t fid at ≡ true
unfolding range written_at spots_of spots kind_updates updates_byte
updates_is t fid at u =
    and_from (same_fid t.fid fid) (kind_updates t.kind at) (fids t.fid fid u.1)
    (subst (λ k. kind_updates k at ≡ true) (sym u.2) u.3)

unfoldable pub updates_status : Token → Fid → Bool
updates_status t fid = same_fid t.fid fid && same_kind t.kind (Status true)

pub status_yes : (t : Token) (fid : Fid) → updates_status t fid ≡ true → UpdatesStatus t fid
unfolding range written_at spots_of spots kind_updates updates_byte updates_status
status_yes t fid e =
    let p = and_parts (same_fid t.fid fid) (same_kind t.kind (Status true)) e in
    (fid_is t.fid fid p.0, kind_is t.kind (Status true) p.1)

pub status_is : (t : Token) (fid : Fid) → UpdatesStatus t fid → updates_status t fid ≡ true
unfolding range written_at spots_of spots kind_updates updates_byte updates_status
status_is t fid u =
    and_from (same_fid t.fid fid) (same_kind t.kind (Status true)) (fids t.fid fid u.0) (kinds t.kind (Status true) u.1)

unfoldable pub takes_status : Step → Fid → Bool
takes_status s fid = list_any (λ t. updates_status t fid) s.taken

pub takes_status_yes : (s : Step) (fid : Fid) → takes_status s fid ≡ true → TakesStatus s fid
unfolding range written_at spots_of spots kind_updates updates_byte updates_status takes_status
takes_status_yes s fid e = let p = some_in (λ t. updates_status t fid) s.taken e in (p.0, p.1, status_yes p.0 fid p.2)

pub takes_status_is : (s : Step) (fid : Fid) → TakesStatus s fid → takes_status s fid ≡ true
unfolding range written_at spots_of spots kind_updates updates_byte updates_status takes_status
takes_status_is s fid x = any_of (λ t. updates_status t fid) s.taken x.0 x.1 (status_is x.0 fid x.2)

-- the last length that was given back
unfoldable pub has_length : Fid → Give → Bool
has_length fid g = same_fid g.fid fid && is_some g.length

some_length : (o : Option ℕ) → is_some o ≡ true → (n : ℕ) × (o ≡ Some n)
unfolding range written_at spots_of spots kind_updates updates_byte updates_status takes_status has_length
some_length None e = absurd (cc)
some_length (Some n) e = (n, refl)

has_length_yes : (fid : Fid) (g : Give) → has_length fid g ≡ true → HasLength g fid
unfolding range written_at spots_of spots kind_updates updates_byte updates_status takes_status has_length
has_length_yes fid g e =
    let p = and_parts (same_fid g.fid fid) (is_some g.length) e in (fid_is g.fid fid p.0, some_length g.length p.1)

has_length_is : (fid : Fid) (g : Give) → HasLength g fid → has_length fid g ≡ true
unfolding range written_at spots_of spots kind_updates updates_byte updates_status takes_status has_length
has_length_is fid g x =
    and_from (same_fid g.fid fid) (is_some g.length) (fids g.fid fid x.0) (subst (λ o. is_some o ≡ true)
    (sym x.1.1) refl)

unfoldable pub newer : Step → Fid → Bool
newer s fid = takes_status s fid || list_any (has_length fid) s.made

unfoldable pub last_lengths : List Step → Fid → List Give
last_lengths [] fid = []
last_lengths (s ∷ past) fid =
    filter (has_length fid) s.made ++ (if not (newer s fid) then last_lengths past fid else [])

pub last_in : (past : List Step) (fid : Fid) (g : Give) → IsLastLength past fid g → In g (last_lengths past fid)
unfolding range written_at spots_of spots kind_updates updates_byte updates_status takes_status has_length newer last_lengths
last_in [] fid g x = elim x [ ]
last_in (s ∷ past) fid g (inl x) =
    in_front g (filter (has_length fid) s.made) (if not (newer s fid) then last_lengths past fid else [])
    (in_filter (has_length fid) s.made g x.0 (has_length_is fid g x.1))
last_in (s ∷ past) fid g (inr x) =
    in_back g (filter (has_length fid) s.made) (if not (newer s fid) then last_lengths past fid else [])
    (in_if (not (newer s fid)) g (last_lengths past fid) (not_is (newer s fid) (λ e.
    elim (or_cases (takes_status s fid) (list_any (has_length fid) s.made) e) [
      | inl p ↦ x.1 (takes_status_yes s fid p)
      | inr q ↦ (let r = some_in (has_length fid) s.made q in x.2 r.0 r.1 (has_length_yes fid r.0 r.2))
    ])) (last_in past fid g x.0))

pub in_last : (past : List Step) (fid : Fid) (g : Give) → In g (last_lengths past fid) → IsLastLength past fid g
unfolding range written_at spots_of spots kind_updates updates_byte updates_status takes_status has_length newer last_lengths
in_last [] fid g i = elim i [ ]
in_last (s ∷ past) fid g i =
    elim (in_split g (filter (has_length fid) s.made) (if not (newer s fid) then last_lengths past fid else []) i) [
      | inl p ↦ (let q = from_filter (has_length fid) s.made g p in inl (q.0, has_length_yes fid g q.1))
      | inr p ↦ (
          let q = if_in (not (newer s fid)) g (last_lengths past fid) p in
          inr (
            in_last past fid g q.1,
            λ t. is_not (newer s fid) q.0 (or_left (takes_status s fid) (list_any (has_length fid) s.made)
                (takes_status_is s fid t)),
            λ o m h. is_not (newer s fid) q.0 (or_right (takes_status s fid) (list_any (has_length fid) s.made)
                (any_of (has_length fid) s.made o m (has_length_is fid o h))),
          )
          )
    ]

unfoldable pub has_present : List Step → Step → Fid → Give → Bool
has_present past s fid g = same_length g.length (Some (sees past s fid Size)) && is_known (s ∷ past) (number_of g)

unfoldable pub length_clean : List Step → Step → Fid → Bool
length_clean past s fid = not (takes_status s fid) && list_any (has_present past s fid) (last_lengths past fid)

pub length_clean_yes : (past : List Step) (s : Step) (fid : Fid) → length_clean past s fid ≡ true
    → LengthIsClean past s fid
unfolding range written_at spots_of spots kind_updates updates_byte updates_status takes_status has_length newer last_lengths has_present length_clean
length_clean_yes past s fid e =
    let p = and_parts (not (takes_status s fid)) (list_any (has_present past s fid) (last_lengths past fid)) e in
    let q = some_in (has_present past s fid) (last_lengths past fid) p.1 in
    let r = and_parts (same_length q.0.length (Some (sees past s fid Size))) (is_known (s ∷ past)
    (number_of q.0)) q.2 in
    record {
      give = q.0;
      last = in_last past fid q.0 q.1;
      since = λ t. is_not (takes_status s fid) p.0 (takes_status_is s fid t);
      present = length_is q.0.length (Some (sees past s fid Size)) r.0;
      known = known_yes (s ∷ past) (number_of q.0) r.1;
    }

pub length_clean_is : (past : List Step) (s : Step) (fid : Fid) → LengthIsClean past s fid
    → length_clean past s fid ≡ true
unfolding range written_at spots_of spots kind_updates updates_byte updates_status takes_status has_length newer last_lengths has_present length_clean
length_clean_is past s fid c =
    and_from (not (takes_status s fid)) (list_any (has_present past s fid) (last_lengths past fid))
    (not_is (takes_status s fid) (λ e. c.since (takes_status_yes s fid e)))
    (any_of (has_present past s fid) (last_lengths past fid) c.give (last_in past fid c.give c.last)
    (and_from (same_length c.give.length (Some (sees past s fid Size))) (is_known (s ∷ past) (number_of c.give))
    (length_same c.give.length (Some (sees past s fid Size)) c.present) (known_is (s ∷ past)
    (number_of c.give) c.known)))

unfoldable pub length_dirty : List Step → Step → Token → Bool
length_dirty past s t = updates_status t t.fid && not (length_clean past s t.fid)

pub length_dirty_yes : (past : List Step) (s : Step) (t : Token) → length_dirty past s t ≡ true → LengthIsDirty past s t
unfolding range written_at spots_of spots kind_updates updates_byte updates_status takes_status has_length newer last_lengths has_present length_clean length_dirty
length_dirty_yes past s t e =
    let p = and_parts (updates_status t t.fid) (not (length_clean past s t.fid)) e in
    (status_yes t t.fid p.0, λ c. is_not (length_clean past s t.fid) p.1 (length_clean_is past s t.fid c))

pub length_dirty_is : (past : List Step) (s : Step) (t : Token) → LengthIsDirty past s t → length_dirty past s t ≡ true
unfolding range written_at spots_of spots kind_updates updates_byte updates_status takes_status has_length newer last_lengths has_present length_clean length_dirty
length_dirty_is past s t d =
    and_from (updates_status t t.fid) (not (length_clean past s t.fid)) (status_is t t.fid d.0)
    (not_is (length_clean past s t.fid) (λ e. d.1 (length_clean_yes past s t.fid e)))

unfoldable pub byte_dirty : List Step → Token → ℕ → Bool
byte_dirty past t at = updates_byte t t.fid at && is_dirty past t.fid at

pub byte_dirty_is : (past : List Step) (t : Token) (at : ℕ) → ByteIsDirty past t at → byte_dirty past t at ≡ true
unfolding range written_at spots_of spots kind_updates updates_byte updates_status takes_status has_length newer last_lengths has_present length_clean length_dirty byte_dirty
byte_dirty_is past t at d = and_from (updates_byte t t.fid at) (is_dirty past t.fid at) (updates_is t t.fid at d.0) d.1

pub byte_dirty_yes : (past : List Step) (t : Token) (at : ℕ) → byte_dirty past t at ≡ true → ByteIsDirty past t at
unfolding range written_at spots_of spots kind_updates updates_byte updates_status takes_status has_length newer last_lengths has_present length_clean length_dirty byte_dirty
byte_dirty_yes past t at e =
    let p = and_parts (updates_byte t t.fid at) (is_dirty past t.fid at) e in (updates_yes t t.fid at p.0, p.1)

unfoldable pub dirty_under : List Step → Step → Token → Bool
dirty_under past s t = list_any (byte_dirty past t) (spots past t.fid) || length_dirty past s t

pub dirty_under_yes : (past : List Step) (s : Step) (t : Token) → dirty_under past s t ≡ true → IsDirtyUnder past s t
unfolding range written_at spots_of spots kind_updates updates_byte updates_status takes_status has_length newer last_lengths has_present length_clean length_dirty byte_dirty dirty_under
dirty_under_yes past s t e =
    elim (or_cases (list_any (byte_dirty past t) (spots past t.fid)) (length_dirty past s t) e) [
      | inl p ↦ (let q = some_in (byte_dirty past t) (spots past t.fid) p in inl (q.0, byte_dirty_yes past t q.0 q.2))
      | inr p ↦ inr (length_dirty_yes past s t p)
    ]

pub dirty_under_is : (past : List Step) (s : Step) (t : Token) → IsDirtyUnder past s t → dirty_under past s t ≡ true
unfolding range written_at spots_of spots kind_updates updates_byte updates_status takes_status has_length newer last_lengths has_present length_clean length_dirty byte_dirty dirty_under
dirty_under_is past s t (inl d) =
    or_left (list_any (byte_dirty past t) (spots past t.fid)) (length_dirty past s t)
    (any_of (byte_dirty past t) (spots past t.fid) d.0 (dirty_in past t.fid d.0 d.1.1) (byte_dirty_is past t d.0 d.1))
dirty_under_is past s t (inr d) =
    or_right (list_any (byte_dirty past t) (spots past t.fid)) (length_dirty past s t) (length_dirty_is past s t d)

unfoldable pub is_clean : List Step → Step → Fid → Bool
is_clean past s fid =
    list_all (λ t. implies (same_fid t.fid fid) (not (dirty_under past s t))) (hand s past)
    && list_all (λ g. implies (same_fid g.fid fid) (is_known (s ∷ past) (number_of g))) (made past)

pub clean_yes : (past : List Step) (s : Step) (fid : Fid) → is_clean past s fid ≡ true → IsClean past s fid
unfolding range written_at spots_of spots kind_updates updates_byte updates_status takes_status has_length newer last_lengths has_present length_clean length_dirty byte_dirty dirty_under is_clean
clean_yes past s fid e =
    let p = and_parts (list_all (λ t. implies (same_fid t.fid fid) (not (dirty_under past s t))) (hand s past))
    (list_all (λ g. implies (same_fid g.fid fid) (is_known (s ∷ past) (number_of g))) (made past)) e in
    record {
      none_dirty = λ t h f d.
          is_not (dirty_under past s t)
          (so (same_fid t.fid fid) (not (dirty_under past s t)) (at_all (λ t. implies (same_fid t.fid fid) (not
          (dirty_under past s t))) (hand s past) t p.0 (hand_in s past t h)) (fids t.fid fid f))
          (dirty_under_is past s t d);
      none_open = λ g m f.
          known_yes (s ∷ past) (number_of g)
          (so (same_fid g.fid fid) (is_known (s ∷ past) (number_of g)) (at_all (λ g. implies (same_fid g.fid fid)
          (is_known (s ∷ past) (number_of g))) (made past) g p.1 (made_in past g m)) (fids g.fid fid f));
    }

pub clean_is : (past : List Step) (s : Step) (fid : Fid) → IsClean past s fid → is_clean past s fid ≡ true
unfolding range written_at spots_of spots kind_updates updates_byte updates_status takes_status has_length newer last_lengths has_present length_clean length_dirty byte_dirty dirty_under is_clean
clean_is past s fid c =
    and_from (list_all (λ t. implies (same_fid t.fid fid) (not (dirty_under past s t))) (hand s past)) (list_all
    (λ g. implies (same_fid g.fid fid) (is_known (s ∷ past) (number_of g))) (made past))
    (all_so (λ t. same_fid t.fid fid) (λ t. not (dirty_under past s t)) (hand s past) (λ t m e. not_is
    (dirty_under past s t) (λ d. c.none_dirty t (in_hand s past t m) (fid_is t.fid fid e)
    (dirty_under_yes past s t d))))
    (all_so (λ g. same_fid g.fid fid) (λ g. is_known (s ∷ past) (number_of g)) (made past) (λ g m e. known_is (s
    ∷ past) (number_of g) (c.none_open g (in_made past g m) (fid_is g.fid fid e))))
