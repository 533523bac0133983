-- What is asked of a file, by what the code computed.
use Rattle.std.proofs.Common.{◌≡◌, ◌+◌, ◌∙◌, ◌∷◌, ◌<◌, ◌&&◌, ◌↔◌, Bool, IsTrue, List, MatchBool, None, []}
use Rattle.std.proofs.Common.{ap, arith, false, get_or, length, not, refl, subst, suc, sym, take, true, zero, ℕ}
use Rattle.std.proofs.lemmas.Bool.{lt-ltb}
use Rattle.std.specs.List.{list_any}
use Rattle.base_types.specs.Spans.{has_byte}
use Rattle.base_types.specs.declared.limits.TheConstants.{FILE_BYTES_MAX}
use Rattle.base_types.specs.declared.span.Span.{Span}
use Rattle.host_asks.specs.Fetching.{blocks_of, is_near, lengthens, wanted}
use Rattle.host_leaves.proofs.Steps.{cut_where}
use Rattle.token_ranges.specs.Positions.{IsApart, IsApartBetween}
use Rattle.tree_calls.specs.declared.call.Call.{Call}
use Rattle.tree_calls.specs.declared.call.Call.TheVariants.{Read, Write}
use Rattle.tree_calls.specs.declared.place.Place.{Place}

pub no_wanted : (size : ℕ) (call : Call) → ((p : Place) (f l : ℕ) → call ≡ Read p f l → ⊥) →
    ((p : Place) (f : ℕ) (b : List ℕ) → call ≡ Write p f b → ⊥) → wanted call size ≡ None
no_wanted size (Read p f l) r w = absurd (r p f l refl)
no_wanted size (Write p f b) r w = absurd (w p f b refl)
no_wanted size call r w = refl

pub no_length : (size : ℕ) (call : Call) → ((p : Place) (f : ℕ) (b : List ℕ) → call ≡ Write p f b → ⊥) →
    lengthens call size ≡ false
no_length size (Write p f b) w = absurd (w p f b refl)
no_length size call w = refl

pub lacks_then : (a b : Bool) (covered : Type 0) → a ≡ true → IsTrue b ↔ covered →
    MatchBool (not b) ((a ≡ true) × (covered → ⊥)) ((a ≡ true) → covered)
lacks_then a true covered is e = λ q. e.0 refl
lacks_then a false covered is e = (is, λ h. differ (e.1 h))
  where
    differ : false ≡ true → ⊥
    differ q = absurd (cc)

pub lacks_else : (a : Bool) (covered : Type 0) → a ≡ false → (a ≡ true) → covered
lacks_else a covered is q = absurd (both a q is)
  where
    both : (b : Bool) → b ≡ true → b ≡ false → ⊥
    both b e f = absurd (cc)

-- the blocks in which something is dirty are cut out
filled : (low high : ℕ) (spans : List Span) (i : ℕ) (d : Span) → IsApartBetween low spans high → i < length spans →
    (get_or spans i d).from < (get_or spans i d).to
filled low high [] i d apart l = absurd (omega (arith, l))
filled low high (span ∷ spans) zero d apart l = apart.1
filled low high (span ∷ spans) (suc i) d apart l = filled (span.to + 1) high spans i d apart.2 (omega (arith, l))

near_is : (span : Span) (at : ℕ) → span.from < span.to → is_near at span ≡ has_byte (blocks_of span) at
near_is span at h = ap (λ b. b && has_byte (blocks_of span) at) (lt-ltb span.from span.to h)

module _ (spans : List Span) (i : ℕ) (span : Span) (low : i < length spans) (item : span ≡ get_or spans i span)
    (apart : IsApart spans) where
  is_filled : span.from < span.to
  is_filled =
      subst (λ (s : Span). s.from < s.to) (sym item) (filled 0 (FILE_BYTES_MAX + 1) spans i span apart low)

  pub cut_block : (at : ℕ) (old now new : Bool) (block : Span) → block ≡ blocks_of span →
      now ≡ (old && not (list_any (is_near at) (take i spans))) → new ≡ (now && not (has_byte block at)) →
      new ≡ (old && not (list_any (is_near at) (take (i + 1) spans)))
  cut_block at old now new block block_is inv cut =
      cut_where spans i span low item (is_near at) true old now new inv
      (cut ∙ ap (λ b. now && not (has_byte b at)) block_is
      ∙ ap (λ t. now && not t) (sym (near_is span at is_filled)))
