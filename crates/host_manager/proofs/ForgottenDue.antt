-- Which give-backs are due where some become known as applied: each fileset once, and none that was outstanding before.
use Rattle.base_types.specs.declared.ids.FilesetId.{FilesetId}
use Rattle.host_asks.specs.Asking.{Doing, doing}
use Rattle.host_gives.specs.Giving.{Giving, after_take_out, is_numbered, is_of, is_outstanding}
use Rattle.host_gives.specs.Giving.{number_of as message_number, outstanding, taken_out}
use Rattle.host_leaves.specs.Sending.{with_once}
use Rattle.host_manager.proofs.Forgotten.{HasForgotten, one_forgotten}
use Rattle.host_manager.proofs.Given.{of_body}
use Rattle.host_manager.proofs.Repeated.{with_once_from, with_once_once}
use Rattle.host_manager.specs.Learning.{closed_by, due_after, ended_by, ends_in, learning_given, without_give}
use Rattle.host_tables.proofs.Outstanding.{first_outstanding, number_is}
use Rattle.host_tables.specs.Saying.{IsFirst}
use Rattle.host_tables.specs.Stands.{Stands}
use Rattle.host_tables.specs.declared.draft.Draft.{Draft}
use Rattle.host_tables.specs.declared.tables.Tables.{Tables}
use Rattle.message_types.specs.declared.giving.AppliedGive.{AppliedGive}
use Rattle.message_types.specs.declared.giving.Ends.{Ends}
use Rattle.message_types.specs.declared.giving.Give.{Give}
use Rattle.message_types.specs.declared.message.Message.{Message}
use Rattle.run_rules.specs.Past.{EachOnce, In}
use Rattle.run_rules.specs.declared.step.Step.{Step}
use Rattle.script_lines.specs.declared.script.Script.{Script}
use Rattle.std.proofs.Common.{Bool, List, None, Option, Some, [], ap, eq-eqb, eqb-true, false, fold, if◌then◌else◌, inl}
use Rattle.std.proofs.Common.{inr, is_some, refl, subst, sym, true, ◌&&◌, ◌++◌, ◌==◌, ◌∙◌, ◌∷◌, ◌≡◌}
use Rattle.std.proofs.lemmas.Bool.{and_from}
use Rattle.std.specs.Option.{option_map_or}
use Rattle.host_manager.proofs.Gone as gone_of

-- the filesets that are due, and the give-backs that were the first of theirs
pub record AreDue (m x : Tables) (e : Draft) : Type 0 where
  pub once : EachOnce e.due
  pub fresh : (fs : FilesetId) → In fs e.due → (g : Give) → IsFirst x.gives g → g.fid.fileset ≡ fs
      → IsFirst m.gives g → ⊥

pub none_due : (m : Tables) (d : Draft) → d.due ≡ [] → AreDue m m d
none_due m d none = record {
  once = subst EachOnce (sym none) tt;
  fresh = λ fs i. elim (subst (In fs) none i) [ ];
}

module _ (script : Script) (m : Tables) (past : List Step) (stands : Stands script m past) (d : Draft)
    (ns : List AppliedGive) (n : AppliedGive) (x : Tables) (e : Draft) (it : HasForgotten m d ns x e)
    (so : AreDue m x e) where
  among : (y : Message) → In y x.gives.gives → In y m.gives.gives
  among y i = (it.forgets.gives_from y i).0

  abbrev rest : Giving
  rest = after_take_out x.gives n.fileset n.number

  abbrev out : Bool
  out = is_outstanding x.gives n.fileset n.number

  -- what was the first in all, and is there, is the first there
  first_in : (g : Give) (y : Message) → In y x.gives.gives → IsFirst rest g → IsFirst m.gives g → IsFirst x.gives g
  first_in g y i first before = record {
    message = first.message;
    within = gone_of.in_left_of (is_numbered n.fileset n.number) x.gives.gives first.message first.within;
    body = first.body;
    least = λ other k j b fs less. before.least other k (among other j) b fs less;
  }

  module _ (y : Message) (taken : taken_out x.gives n.fileset n.number ≡ Some y) where
    abbrev x_n : Tables
    x_n = record x { gives = rest }

    -- one of the fileset that is due now was behind the one that is known
    behind : out ≡ true → (g : Give) → IsFirst rest g → g.fid.fileset ≡ n.fileset → IsFirst m.gives g → ⊥
    behind is_out g first same before =
        let here = first_in g y (gone_of.found script m past stands x among it.sound n y taken).0 first before in
        let z = first_outstanding x.gives it.sound g here in
        let there : outstanding x.gives n.fileset ≡ Some z.0 =
        subst (λ (fs : FilesetId). outstanding x.gives fs ≡ Some z.0) same z.1 in
        let hit : (message_number z.0 == n.number) ≡ true =
        sym (ap (λ (o : Option Message). option_map_or (λ message. message_number message == n.number) o false) there)
        ∙ is_out in
        let number = sym (number_is z.0 g z.2) ∙ eqb-true (message_number z.0) n.number hit in
        gone_of.none_left script m past stands x among it.sound n y taken first.message first.within
        (and_from (is_of n.fileset first.message) (message_number first.message == n.number)
        (of_body first.message g n.fileset first.body
        ∙ eq-eqb g.fid.fileset.0 n.fileset.0 (ap (λ (fs : FilesetId). fs.0) same))
        (eq-eqb (message_number first.message) n.number (number_is first.message g first.body ∙ number)))

    some_due : AreDue m x_n (due_after n x e)
    some_due = by_both out (is_some (outstanding rest n.fileset)) refl
      where
        kept : (fs : FilesetId) → In fs e.due → (g : Give) → IsFirst rest g → g.fid.fileset ≡ fs
            → IsFirst m.gives g → ⊥
        kept fs i g first same before = so.fresh fs i g
            (first_in g y (gone_of.found script m past stands x among it.sound n y taken).0 first before) same before

        by_both : (a b : Bool) → out ≡ a
            → AreDue m x_n (if a && b then record e { due = with_once e.due n.fileset } else e)
        by_both true true is_out = record {
          once = with_once_once e.due n.fileset so.once;
          fresh = λ fs i g first same before. elim (with_once_from e.due n.fileset fs i) [
            | inl j ↦ kept fs j g first same before
            | inr q ↦ behind is_out g first (same ∙ q) before
          ];
        }
        by_both true false is_out = record { once = so.once; fresh = kept }
        by_both false b is_out = record { once = so.once; fresh = kept }

  alike_due : (z w : Tables) (f : Draft) → z.gives ≡ w.gives → AreDue m z f → AreDue m w f
  alike_due z w f same due = record {
    once = due.once;
    fresh = λ fs i g first at before. due.fresh fs i g (subst (λ (k : Giving). IsFirst k g) (sym same) first) at before;
  }

  gives_are : (o : Option Ends) → (if is_some o then record (without_give n x) {
    ending = None;
    call = closed_by o x.call;
  } else without_give n x).gives ≡ rest
  gives_are None = refl
  gives_are (Some z) = refl

  pub one_due : AreDue m (learning_given n (doing x e)).tables (learning_given n (doing x e)).draft
  one_due = by_taken (taken_out x.gives n.fileset n.number) refl
    where
      by_taken : (o : Option Message) → taken_out x.gives n.fileset n.number ≡ o
          → AreDue m
          (option_map_or (λ message. doing (ended_by message (without_give n x)) (due_after n x e)) o
          (doing x e)).tables
          (option_map_or (λ message. doing (ended_by message (without_give n x)) (due_after n x e)) o
          (doing x e)).draft
      by_taken None q = so
      by_taken (Some y) q = alike_due (record x { gives = rest }) (ended_by y (without_give n x)) (due_after n x e)
          (sym (gives_are (ends_in y))) (some_due y q)

module _ (script : Script) (m : Tables) (past : List Step) (stands : Stands script m past) (d : Draft) where
  pub all_due : (ns done : List AppliedGive) (x : Tables) (e : Draft) → HasForgotten m d done x e → AreDue m x e
      → AreDue m (fold (λ at one. learning_given one at) (doing x e) ns).tables
      (fold (λ at one. learning_given one at) (doing x e) ns).draft
  all_due [] done x e it so = so
  all_due (n ∷ ns) done x e it so =
      let next : Doing = learning_given n (doing x e) in
      all_due ns (done ++ n ∷ []) next.tables next.draft (one_forgotten script m past stands d done n x e it)
      (one_due script m past stands d done n x e it so)
