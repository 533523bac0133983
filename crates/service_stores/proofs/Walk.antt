-- The entries of a history, one after the other.
use Rattle.store_laws.proofs.Whole.{limited}
use Rattle.std.proofs.Common.{◌≡◌, ◌<◌, ◌+◌, ℕ, zero, suc, true, List, [], ◌∷◌, ◌++◌, length, drop, get_or, Option, refl, sym, ap, ◌∙◌, subst, arith}
use Rattle.std.proofs.lemmas.List.{append_assoc, drop_more}
use Rattle.base_types.specs.declared.ids.ServerId.{ServerId}
use Rattle.tree_calls.specs.declared.entry.Entry.{Entry}
use Rattle.tree_calls.specs.declared.entry.Entry.TheVariants.{Call as Called, Stored, Down, Left}
use Rattle.tree_calls.specs.declared.roster.Roster.{Roster}
use Rattle.tree_answers.specs.declared.tree.Tree.{Tree}
use Rattle.tree_answers.specs.Histories.{IsHistory, IsLegal, after_entry}
use Rattle.tree_answers.specs.WellFormed.{IsWellFormed, is_limited}
use Rattle.tree_answers.proofs.Kept.{formed_entry}
use Rattle.store_laws.specs.Acts.{acts_of, entry_acts, number_written}
use Rattle.store_laws.specs.HistoryLaws.{IsGiven}
use Rattle.message_types.specs.Soundness.{Each}
use Rattle.store_acts.specs.declared.act.Act.{Act}

next_entry : (history : List Entry) (i : ℕ) (entry : Entry) → i < length history → entry ≡ get_or history i entry →
    drop i history ≡ entry ∷ drop (i + 1) history
next_entry history i entry lt e = drop_more history i entry lt ∙ ap (λ x. x ∷ drop (i + 1) history) (sym e)

-- it may come next
pub legal_next : (tree : Tree) (history : List Entry) (i : ℕ) (entry : Entry) → i < length history →
    entry ≡ get_or history i entry → IsHistory tree (drop i history) →
    IsLegal tree entry × IsHistory (after_entry tree entry) (drop (i + 1) history)
legal_next tree history i entry lt e h = subst (IsHistory tree) (next_entry history i entry lt e) h

-- its acts
pub acts_next : (server : ServerId) (tree : Tree) (number : Option ℕ) (history : List Entry) (i : ℕ) (entry : Entry)
    (whole acts : List Act) → i < length history → entry ≡ get_or history i entry →
    whole ≡ acts ++ acts_of server tree number (drop i history) →
    whole ≡ (acts ++ entry_acts server tree number entry)
    ++ acts_of server (after_entry tree entry) (number_written entry) (drop (i + 1) history)
acts_next server tree number history i entry whole acts lt e h =
    h ∙ ap (λ entries. acts ++ acts_of server tree number entries) (next_entry history i entry lt e)
    ∙ sym (append_assoc acts (entry_acts server tree number entry)
    (acts_of server (after_entry tree entry) (number_written entry) (drop (i + 1) history)))

-- what is given with it
pub given_at : (roster : Roster) (history : List Entry) (i : ℕ) (entry : Entry) → i < length history →
    entry ≡ get_or history i entry → Each (IsGiven roster) history → IsGiven roster entry
given_at roster [] i entry lt e h = absurd (omega (arith, lt))
given_at roster (x ∷ history) zero entry lt e h = subst (IsGiven roster) (sym e) h.0
given_at roster (x ∷ history) (suc i) entry lt e h = given_at roster history i entry (omega (arith, lt)) e h.1

pub formed_next : (roster : Roster) (tree : Tree) (entry : Entry) → IsWellFormed tree → IsLegal tree entry →
    IsGiven roster entry → IsWellFormed (after_entry tree entry)
formed_next roster tree entry w legal given = formed_entry tree entry w legal (limited roster entry given)
