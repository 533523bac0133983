-- Which give-backs are due when one more is made: those that were, and the new one where none of its fileset was
-- outstanding.
use Rattle.base_types.specs.declared.ids.FilesetId.{FilesetId}
use Rattle.host_gives.specs.Giving.{after_add, given_in, is_of, outstanding}
use Rattle.host_leaves.specs.Sending.{with_once}
use Rattle.host_manager.proofs.Repeated.{with_once_from, with_once_once}
use Rattle.host_tables.proofs.Lists.{in_either, in_left}
use Rattle.host_tables.proofs.Outstanding.{found_some}
use Rattle.host_tables.specs.Saying.{IsFirst}
use Rattle.host_tables.specs.declared.tables.Tables.{Tables}
use Rattle.message_types.specs.declared.giving.Give.{Give}
use Rattle.message_types.specs.declared.message.Body.{Body}
use Rattle.message_types.specs.declared.message.Body.TheVariants.{GiveBack}
use Rattle.message_types.specs.declared.message.Message.{Message}
use Rattle.run_rules.specs.Past.{EachOnce, In}
use Rattle.run_rules.specs.Tokens.{IsOutstanding}
use Rattle.run_rules.specs.declared.step.Step.{Step}
use Rattle.std.proofs.Common.{Bool, List, None, Option, Some, [], ap, eq-eqb, false, if◌then◌else◌, inl, inr, is_none}
use Rattle.std.proofs.Common.{refl, subst, sym, true, ◌==◌, ◌∙◌, ◌∷◌, ◌≡◌, ◌⊎◌}
use Rattle.std.specs.Option.{option_map_or}

module _ (m : Tables) (past : List Step) (dues : List FilesetId) (g : Give) (message : Message)
    (body : message.body ≡ GiveBack g) (new_give : IsOutstanding past g → ⊥)
    (fresh : (k : Give) → IsFirst m.gives k → In k.fid.fileset dues → IsOutstanding past k → ⊥) where
  abbrev pub dues_by : Bool → List FilesetId
  dues_by b = if b then with_once dues g.fid.fileset else dues

  abbrev pub all : List FilesetId
  all = dues_by (is_none (outstanding m.gives g.fid.fileset))

  pub all_once : EachOnce dues → EachOnce all
  all_once once = by_one (is_none (outstanding m.gives g.fid.fileset))
    where
      by_one : (b : Bool) → EachOnce (dues_by b)
      by_one true = with_once_once dues g.fid.fileset once
      by_one false = once

  in_all : (fs : FilesetId) → In fs all → In fs dues ⊎ (outstanding m.gives fs ≡ None)
  in_all fs i = by_one (outstanding m.gives g.fid.fileset) refl i
    where
      by_one : (o : Option Message) → outstanding m.gives g.fid.fileset ≡ o → In fs (dues_by (is_none o))
          → In fs dues ⊎ (outstanding m.gives fs ≡ None)
      by_one None e j = elim (with_once_from dues g.fid.fileset fs j) [
        | inl k ↦ inl k
        | inr same ↦ inr (ap (outstanding m.gives) same ∙ e)
      ]
      by_one (Some z) e j = inl j

  -- the first of a fileset is the first it was, or the new one
  pub all_fresh : (k : Give) → IsFirst (after_add m.gives message) k → In k.fid.fileset all → IsOutstanding past k → ⊥
  all_fresh k one i o = elim (in_either m.gives.gives (message ∷ []) one.message one.within) [
    | inr j ↦ elim j [
      | inl e ↦
          let p : GiveBack g ≡ GiveBack k = sym body ∙ ap (λ (y : Message). y.body) (sym e) ∙ one.body in
          let same : g ≡ k = cc in new_give (subst (IsOutstanding past) (sym same) o)
      | inr n ↦ elim n [ ]
    ]
    | inl j ↦ elim (in_all k.fid.fileset i) [
      | inl was ↦ fresh k (record {
        message = one.message;
        within = j;
        body = one.body;
        least = λ other w y. one.least other w (in_left m.gives.gives (message ∷ []) other y);
      }) was o
      | inr none ↦
          let r = found_some (is_of k.fid.fileset) m.gives.gives one.message j
          (ap (λ (b : Body). option_map_or (λ (give : Give). give.fid.fileset.0 == k.fid.fileset.0) (given_in b) false)
          one.body ∙ eq-eqb k.fid.fileset.0 k.fid.fileset.0 refl) in
          let p = sym none ∙ r.1 in absurd (cc)
    ]
  ]
