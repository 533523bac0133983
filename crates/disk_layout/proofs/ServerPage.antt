-- The server page as it is written.
use Rattle.std.proofs.Common.{◌≡◌, ◌<◌, ◌≤◌, ◌⊎◌, ℕ, ◌+◌, List, [], ◌∷◌, inl, inr, ◌∙◌, arith, replicate}
use Rattle.base_types.specs.Image.{byte_at, Torn, Holds}
use Rattle.base_outside.proofs.Image.{byte_at-holds}
use Rattle.disk_layout.specs.Numbers.{number_at}
use Rattle.disk_layout.specs.Server.{IsNewServer}
use Rattle.disk_layout.proofs.Bytes.{number-same}
use Rattle.disk_layout.proofs.Words.{no_byte}

-- the next number and the format over zeros
pub spelled_server : (a b : List ℕ) → Torn 8 4 (replicate 512 0) a → number_at 4 8 a ≡ 1 → Torn 29 1 a b → Holds 29 (2 ∷ []) b → IsNewServer b
spelled_server a b number_torn number format_torn format = record {
  next = number-same 4 8 8 b a (λ j lt. format_torn.before (8 + j) (omega arith)) ∙ number;
  format = byte_at-holds 29 2 b format;
  zeros = zeros;
}
  where
    zeros : (k : ℕ) → (k < 8) ⊎ ((12 ≤ k) × (k < 29)) ⊎ ((30 ≤ k) × (k < 512)) → byte_at b k ≡ 0
    zeros k (inl low) = format_torn.before k (omega arith) ∙ number_torn.before k low ∙ no_byte 512 k
    zeros k (inr (inl mid)) = format_torn.before k mid.1 ∙ number_torn.after k mid.0 ∙ no_byte 512 k
    zeros k (inr (inr high)) = format_torn.after k high.0 ∙ number_torn.after k (let e = high.0 in omega (arith, e)) ∙ no_byte 512 k
