-- A disk in memory notes one change more.
use Rattle.std.proofs.Common.{◌≡◌, ◌⊎◌, inl, inr, ⊎_elim, ◌≤◌, ℕ, ◌+◌, List, [], ◌∷◌, ◌++◌, length, take, refl, sym, ◌∙◌, ap, subst, arith, length-append}
use Rattle.std.proofs.lemmas.List.{take_all, take-append-le}
use Rattle.std.proofs.lemmas.Bool.{cases_lt}
use Rattle.base_types.specs.Image.{Torn}
use Rattle.base_types.specs.Crash.{After}
use Rattle.disk_device.specs.declared.act.Act.{Act}
use Rattle.disk_device.specs.declared.act.Act.TheVariants.{Wrote, Tore, Synced}
use Rattle.disk_device.specs.Laws.{reads_outcome}
use Rattle.disk_device.specs.Replay.{State, overwritten, at_first, after_act, state_after, IsOutcome}

state_after-push : (state : State) (acts : List Act) (act : Act) → state_after state (acts ++ act ∷ []) ≡ after_act (state_after state acts) act
state_after-push state [] act = refl
state_after-push state (first ∷ acts) act = state_after-push (after_act state first) acts act

-- what a crash behind these changes may leave, and what one behind t of them or more
abbrev May : List ℕ → List Act → List ℕ → Type 0
May start acts c = IsOutcome (state_after (at_first start) acts) c

abbrev Left : List ℕ → List Act → ℕ → List ℕ → Type 0
Left start acts t c = (k : ℕ) × (t ≤ k) × (k ≤ length acts) × May start (take k acts) c

module _ (start : List ℕ) (acts later : List Act) (act : Act) (is : later ≡ acts ++ act ∷ []) where
  pub replayed : state_after (at_first start) later ≡ after_act (state_after (at_first start) acts) act
  replayed = ap (state_after (at_first start)) is ∙ state_after-push (at_first start) acts act

  pub longer : length later ≡ length acts + 1
  longer = ap length is ∙ length-append acts (act ∷ [])

  front : (k : ℕ) → k ≤ length acts → take k later ≡ take k acts
  front k le = ap (λ (l : List Act). take k l) is ∙ take-append-le k acts (act ∷ []) le

  pub nothing_else : (t : ℕ) (c : List ℕ) → t ≤ length acts → Left start later t c → Left start acts t c ⊎ May start later c
  nothing_else t c le left = elim (cases_lt (length acts) left.0) [
    | inl all ↦ inr (subst (λ (l : List Act). May start l c) (take_all left.0 later (omega (arith, longer))) left.3)
    | inr some ↦ inl (left.0, left.1, omega arith, subst (λ (l : List Act). May start l c) (front left.0 (omega arith)) left.3)
  ]

  pub kept : (t : ℕ) (c : List ℕ) → t ≤ length acts → Left start acts t c → Left start later t c
  kept t c le left =
      (left.0, left.1, omega (arith, left.2, longer), subst (λ (l : List Act). May start l c) (sym (front left.0 left.2)) left.3)

-- a write of a piece
module _ (start : List ℕ) (acts later : List Act) (at : ℕ) (piece : List ℕ) (is : later ≡ acts ++ Wrote at piece ∷ []) where
  wrote : state_after (at_first start) later ≡ after_act (state_after (at_first start) acts) (Wrote at piece)
  wrote = replayed start acts later (Wrote at piece) is

  pub write_bytes : (bytes after : List ℕ) → bytes ≡ (state_after (at_first start) acts).reads
      → after ≡ overwritten at piece bytes → after ≡ (state_after (at_first start) later).reads
  write_bytes bytes after reads done =
      done ∙ ap (overwritten at piece) reads ∙ sym (ap (λ (s : State). s.reads) wrote)

  pub write_now : (c : List ℕ) → May start later c → After (Torn at (length piece)) (May start acts) c
  write_now c left = subst (λ (s : State). IsOutcome s c) wrote left

  pub write_any : (c d : List ℕ) → May start acts d → Torn at (length piece) d c → May start later c
  write_any c d before torn = subst (λ (s : State). IsOutcome s c) (sym wrote) (d, before, torn)

-- a write that failed
module _ (start : List ℕ) (acts later : List Act) (at len : ℕ) (is : later ≡ acts ++ Tore at len ∷ []) where
  tore : state_after (at_first start) later ≡ after_act (state_after (at_first start) acts) (Tore at len)
  tore = replayed start acts later (Tore at len) is

  pub tore_reads : (state_after (at_first start) later).reads ≡ (state_after (at_first start) acts).reads
  tore_reads = ap (λ (s : State). s.reads) tore

  pub tore_now : (c : List ℕ) → May start later c → After (Torn at len) (May start acts) c
  tore_now c left = subst (λ (s : State). IsOutcome s c) tore left

  pub tore_any : (c d : List ℕ) → May start acts d → Torn at len d c → May start later c
  tore_any c d before torn = subst (λ (s : State). IsOutcome s c) (sym tore) (d, before, torn)

-- a sync
module _ (start : List ℕ) (acts later : List Act) (is : later ≡ acts ++ Synced ∷ []) where
  synced : state_after (at_first start) later ≡ after_act (state_after (at_first start) acts) Synced
  synced = replayed start acts later Synced is

  pub sync_bytes : (state_after (at_first start) later).reads ≡ (state_after (at_first start) acts).reads
  sync_bytes = ap (λ (s : State). s.reads) synced

  pub sync_only : (c : List ℕ) → May start later c → c ≡ (state_after (at_first start) acts).reads
  sync_only c left = subst (λ (s : State). IsOutcome s c) synced left

  pub sync_now : (c : List ℕ) → May start later c → May start acts c
  sync_now c left = subst (May start acts) (sym (sync_only c left)) (reads_outcome (at_first start) acts refl)

  pub sync_since : (t : ℕ) (c : List ℕ) → t ≤ length acts → Left start later t c → Left start acts t c
  sync_since t c le left =
      ⊎_elim (λ earlier. earlier) (λ now. (length acts, le, omega arith, subst (λ (l : List Act). May start l c) (sym (take_all (length acts) acts (omega arith))) (sync_now c now)))
      (nothing_else start acts later Synced is t c le left)
