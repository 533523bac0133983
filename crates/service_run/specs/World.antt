-- What is seen of the outside before a call and after it.
use Rattle.std.specs.Prelude.{ℕ, List}

-- what a source shows, or a sink: the bytes that are left, or that it got, where it tells them; and how often it failed
pub record Shown (told : Type 0) : Type 0 where
  pub bytes : List ℕ
  pub faults : ℕ

abbrev pub shown : (told : Type 0) → List ℕ → ℕ → Shown told
shown told bytes faults = record { bytes = bytes; faults = faults }

-- what both show
pub record World (reads writes : Type 0) : Type 0 where
  pub source : Shown reads
  pub sink : Shown writes

abbrev pub world : {reads writes : Type 0} → Shown reads → Shown writes → World reads writes
world source sink = record { source = source; sink = sink }
