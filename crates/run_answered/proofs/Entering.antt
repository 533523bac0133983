-- Which entries are a host's calls.
use Rattle.std.proofs.Common.{Bool, List, ap, append_assoc, eqb-true, false, if◌then◌else◌, inl, inr, refl, sym, true}
use Rattle.std.proofs.Common.{ℕ, ◌++◌, ◌==◌, ◌∙◌, ◌∷◌, ◌≡◌}
use Rattle.std.proofs.lemmas.Bool.{eq-eqb}
use Rattle.std.specs.Prelude.{[], map}
use Rattle.base_types.specs.declared.ids.HostId.{HostId}
use Rattle.tree_calls.specs.declared.entry.Entry.{Entry}
use Rattle.run_rules.specs.Past.{In}
use Rattle.run_rules.specs.Runs.{call_entry}
use Rattle.run_rules.specs.declared.applied.Answer.{Answer}
use Rattle.run_due.specs.Begun.{asked_as}
use Rattle.run_answered.specs.Entries.{entered, entry_as}

other_host : (a b : HostId) → (a ≡ b → ⊥) → (a.0 == b.0) ≡ false
other_host a b two = go (a.0 == b.0) refl
  where
    go : (q : Bool) → (a.0 == b.0) ≡ q → (a.0 == b.0) ≡ false
    go true e = absurd (two (ap (λ (n : ℕ). record { 0 = n }) (eqb-true a.0 b.0 e)))
    go false e = e

-- the entry of an answer of the host, and of another
pub entry_own : (host : HostId) (a : Answer) → a.host ≡ host → entry_as host (call_entry a) ≡ asked_as a.k a.call ∷ []
entry_own host a e =
    ap (λ (b : Bool). if b then asked_as a.k a.call ∷ [] else [])
    (ap (λ (h : HostId). h.0 == host.0) e ∙ eq-eqb host.0 host.0 refl)

pub entry_other : (host : HostId) (a : Answer) → (a.host ≡ host → ⊥) → entry_as host (call_entry a) ≡ []
entry_other host a two =
    ap (λ (b : Bool). if b then asked_as a.k a.call ∷ [] else []) (other_host a.host host two)

-- the calls in one history after another
pub entered_both : (h : HostId) (xs ys : List Entry) → entered h (xs ++ ys) ≡ entered h xs ++ entered h ys
entered_both h [] ys = refl
entered_both h (x ∷ xs) ys =
    ap (λ z. entry_as h x ++ z) (entered_both h xs ys)
    ∙ sym (append_assoc (entry_as h x) (entered h xs) (entered h ys))

-- another host's answers are none of the host's
pub others_none : (h k : HostId) → (k ≡ h → ⊥) → (xs : List Answer) → ((a : Answer) → In a xs → a.host ≡ k)
    → entered h (map call_entry xs) ≡ []
others_none h k two [] of = refl
others_none h k two (a ∷ xs) of =
    ap (λ z. z ++ entered h (map call_entry xs)) (entry_other h a (λ e. two (sym (of a (inl refl)) ∙ e)))
    ∙ others_none h k two xs (λ b i. of b (inr i))
