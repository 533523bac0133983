-- A step that is made doing by doing: one decision more, one message more.
use Rattle.std.proofs.Common.{◌≡◌, List, [], ◌∷◌, ◌++◌, refl, sym, ◌∙◌, ap, subst}
use Rattle.base_types.specs.declared.ids.ServerId.{ServerId}
use Rattle.tree_answers.specs.declared.tree.Tree.{Tree}
use Rattle.message_types.specs.declared.message.Message.{Message}
use Rattle.run_rules.specs.Doings.{Doing, deciding, decisions_of, sending}
use Rattle.run_rules.specs.Doings.Doing.{Sent}
use Rattle.run_rules.specs.Kept.{filesets_after, filesets_through}
use Rattle.run_rules.specs.Past.{EachInTurn, appended}
use Rattle.run_rules.specs.ServerDecides.{MayDecide, MayDecideAll}
use Rattle.run_rules.specs.declared.applied.Applied.{Applied}
use Rattle.run_rules.specs.declared.step.Cause.{Cause}
use Rattle.run_rules.specs.declared.step.Step.{Step}

pub after_both : {A : Type 0} (xs ys past : List A) → appended (xs ++ ys) past ≡ appended ys (appended xs past)
after_both [] ys past = refl
after_both (x ∷ xs) ys past = after_both xs ys (x ∷ past)

append_three : {A : Type 0} (xs ys zs : List A) → (xs ++ ys) ++ zs ≡ xs ++ (ys ++ zs)
append_three [] ys zs = refl
append_three (x ∷ xs) ys zs = ap (λ l. x ∷ l) (append_three xs ys zs)

pub deciding_both : (xs ys : List Applied) → deciding (xs ++ ys) ≡ deciding xs ++ deciding ys
deciding_both [] ys = refl
deciding_both (x ∷ xs) ys = ap (λ l. decisions_of x ++ l) (deciding_both xs ys) ∙ sym (append_three (decisions_of x)
    (deciding xs) (deciding ys))

pub kept_both : (cause : Cause) (xs ys : List Applied) (tree : Tree) → filesets_through cause (xs ++ ys) tree
    ≡ filesets_through cause ys (filesets_through cause xs tree)
kept_both cause [] ys tree = refl
kept_both cause (x ∷ xs) ys tree = kept_both cause xs ys (filesets_after cause tree x)

-- each of some doings, and one more
pub one_more : {A : Type 0} (may : List A → A → Type 0) (xs : List A) (x : A) (past : List A)
    → EachInTurn may xs past → may (appended xs past) x → EachInTurn may (xs ++ x ∷ []) past
one_more may [] x past e k = (k, tt)
one_more may (y ∷ xs) x past e k = (e.0, one_more may xs x (y ∷ past) e.1 k)

pub sending_both : (ms : List Message) (m : Message) → sending (ms ++ m ∷ [])
    ≡ sending ms ++ Sent m.host m.epoch m.moves m.body ∷ []
sending_both [] m = refl
sending_both (x ∷ ms) m = ap (λ l. Sent x.host x.epoch x.moves x.body ∷ l) (sending_both ms m)

-- one decision more
pub decides_more : (server : ServerId) (tree : Tree) (before past : List Doing) (s : Step) (xs : List Applied)
    (x : Applied)
    → MayDecideAll server tree before past s xs
    → MayDecide server (filesets_through s.cause xs tree) before (appended (deciding xs) past) s x
    → MayDecideAll server tree before past s (xs ++ x ∷ [])
decides_more server tree before past s [] x e k = (k, tt)
decides_more server tree before past s (y ∷ xs) x e k = (
  e.0,
  decides_more server (filesets_after s.cause tree y) before (appended (decisions_of y) past) s xs x e.1
      (subst (λ (acts : List Doing). MayDecide server (filesets_through s.cause xs
      (filesets_after s.cause tree y)) before acts s x) (after_both (decisions_of y) (deciding xs) past) k),
)
