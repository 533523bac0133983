-- What a Fetch asks for may be sent.
use Rattle.std.proofs.Common.{◌≡◌, ◌≤◌, ◌<◌, ◌+◌, ◌*◌, ◌++◌, ◌∙◌, ◌∷◌, List, None, Option, Some, [], arith, inl, inr}
use Rattle.std.proofs.Common.{Bool, length, map, refl, subst, sym, ℕ}
use Rattle.std.proofs.lemmas.List.{length-append, length-map}
use Rattle.base_types.specs.declared.ids.Fid.{Fid}
use Rattle.base_types.specs.declared.limits.TheConstants.{FILE_BYTES_MAX}
use Rattle.base_types.specs.declared.span.Span.{Span}
use Rattle.host_asks.specs.Fetching.{AddsClean, AreFetchable, StatusAsked, front_of}
use Rattle.host_tables.proofs.Lists.{in_either}
use Rattle.host_tables.specs.declared.tables.Tables.{Tables}
use Rattle.host_walk.specs.Trying.{status_need, whole_need}
use Rattle.message_types.specs.Soundness.{HasRoom}
use Rattle.run_rules.specs.Past.{In}
use Rattle.token_ranges.specs.Positions.{IsApartBetween}
use Rattle.token_types.specs.declared.token.Kind.TheVariants.{Bytes}
use Rattle.token_types.specs.declared.token.Need.{Need}
use Rattle.tree_calls.specs.declared.call.Call.{Call}

-- spans that don't touch are few, and none is empty
few : (low high : ℕ) (spans : List Span) → IsApartBetween low spans high → low + 2 * length spans ≤ high
few low high [] apart = omega (arith, apart)
few low high (span ∷ spans) apart =
    let a = apart.0 in
    let b = apart.1 in
    let h = few (span.to + 1) high spans apart.2 in
    omega (arith, a, b, h)

all_filled : (low high : ℕ) (spans : List Span) → IsApartBetween low spans high → (s : Span) → In s spans →
    s.from < s.to
all_filled low high [] apart s i = elim i [ ]
all_filled low high (span ∷ spans) apart s (inl e) = subst (λ (t : Span). t.from < t.to) (sym e) apart.1
all_filled low high (span ∷ spans) apart s (inr i) = all_filled (span.to + 1) high spans apart.2 s i

-- of an object that isn't known, and of a directory
pub status_sound : (fid : Fid) (needs : List Need) → needs ≡ status_need fid ∷ [] → AreFetchable needs
status_sound fid needs is = subst AreFetchable (sym is) (room, omega arith)
  where
    room : (n : Need) → In n (status_need fid ∷ []) → HasRoom n.kind
    room n (inl e) = subst (λ (k : Need). HasRoom k.kind) (sym e) tt
    room n (inr i) = elim i [ ]

pub whole_sound : (fid : Fid) (needs : List Need) → needs ≡ status_need fid ∷ whole_need fid ∷ [] → AreFetchable needs
whole_sound fid needs is = subst AreFetchable (sym is) (room, omega arith)
  where
    room : (n : Need) → In n (status_need fid ∷ whole_need fid ∷ []) → HasRoom n.kind
    room n (inl e) = subst (λ (k : Need). HasRoom k.kind) (sym e) tt
    room n (inr (inl e)) = subst (λ (k : Need). HasRoom k.kind) (sym e) (omega arith)
    room n (inr (inr i)) = elim i [ ]

-- of a file
front_room : (m : Tables) (call : Call) (fid : Fid) (size : ℕ) (front : Option Need) →
    StatusAsked m call fid size front → (n : Need) → In n (front_of front) → HasRoom n.kind
front_room m call fid size None s n i = elim i [ ]
front_room m call fid size (Some need) (inl s) n (inl e) = subst (λ (k : Need). HasRoom k.kind) (sym (e ∙ s.0)) tt
front_room m call fid size (Some need) (inr s) n (inl e) = subst (λ (k : Need). HasRoom k.kind) (sym (e ∙ s.0)) tt
front_room m call fid size (Some need) s n (inr i) = elim i [ ]

front_short : (front : Option Need) → length (front_of front) ≤ 1
front_short None = omega arith
front_short (Some need) = omega arith

module _ (m : Tables) (call : Call) (fid : Fid) (size : ℕ) (front : Option Need) (s : StatusAsked m call fid size front)
  where
    pub front_sound : AreFetchable (front_of front)
    front_sound = (front_room m call fid size front s, let h = front_short front in omega (arith, h))

    module _ (update : Bool) (span : Span) (new : List Need) (adds : AddsClean m fid update span (front_of front) new)
      where
        abbrev need_at : Span → Need
        need_at left = record { fid = fid; kind = Bytes update left }

        of_bytes : (spans : List Span) (n : Need) → In n (map need_at spans) →
            (left : Span) × In left spans × (n ≡ need_at left)
        of_bytes [] n i = elim i [ ]
        of_bytes (left ∷ spans) n (inl e) = (left, inl refl, e)
        of_bytes (left ∷ spans) n (inr i) = let r = of_bytes spans n i in (r.0, inr r.1, r.2)

        room : (n : Need) → In n (front_of front ++ map need_at adds.added) → HasRoom n.kind
        room n i = elim (in_either (front_of front) (map need_at adds.added) n i) [
          | inl a ↦ front_room m call fid size front s n a
          | inr b ↦ (let r = of_bytes adds.added n b in
              subst (λ (k : Need). HasRoom k.kind) (sym r.2)
              (all_filled 0 (FILE_BYTES_MAX + 1) adds.added adds.apart r.0 r.1))
        ]

        count : length (front_of front ++ map need_at adds.added) ≤ 65535
        count =
            let all = length-append (front_of front) (map need_at adds.added) in
            let same = length-map adds.added need_at in
            let one = front_short front in
            let many = few 0 (FILE_BYTES_MAX + 1) adds.added adds.apart in
            omega (arith, all, same, one, many)

        pub bytes_sound : AreFetchable new
        bytes_sound = subst AreFetchable (sym adds.needs) (room, count)
