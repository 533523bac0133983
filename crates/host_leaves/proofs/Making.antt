-- A give-back that is made.
use Rattle.std.proofs.Common.{Bool, Err, List, None, Ok, Option, Result, Some, [], ap, arith, cond, eqb-true, false}
use Rattle.std.proofs.Common.{is_none, length, refl, subst, sym, true, ℕ, ◌+◌, ◌++◌, ◌==◌, ◌∙◌, ◌∷◌, ◌≡◌}
use Rattle.std.specs.List.{list_any}
use Rattle.std.specs.Result.{OnOk}
use Rattle.base_types.specs.declared.ids.FilesetId.{FilesetId}
use Rattle.host_gives.specs.Counters.{last_of}
use Rattle.host_gives.specs.Giving.{given_in, outstanding}
use Rattle.message_types.specs.declared.message.Body.{Body}
use Rattle.message_types.specs.declared.message.Body.TheVariants.{GiveBack}
use Rattle.host_leaves.specs.Giving.{GivesWhere, LeavesGiven, LeavesWhere, noting_due}
use Rattle.host_leaves.specs.Sending.{with_once}
use Rattle.base_types.specs.declared.ids.Fid.{Fid}
use Rattle.host_dirty.specs.Dirtiness.{is_dirty, length_of}
use Rattle.host_tables.specs.declared.draft.Draft.{Draft}
use Rattle.host_tables.specs.declared.tables.Tables.{Tables}
use Rattle.message_types.specs.declared.giving.Ends.{Ends}
use Rattle.message_types.specs.declared.giving.Give.{Give}
use Rattle.token_types.specs.declared.token.Token.{Token}
use Rattle.host_leaves.specs.Giving.{CleansSo, Gives, GivesSo, given_tables, making, noting, with_give}

pub both_ok : {T E P Q S : Type 0} (r : Result T E) → OnOk r P → OnOk r Q → (P → Q → S) → OnOk r S
both_ok (Ok x) p q f = f p q
both_ok (Err e) p q f = tt

pub empty_is : {A : Type 0} (xs : List A) → (length xs == 0) ≡ true → xs ≡ []
empty_is [] e = refl
empty_is (x ∷ xs) e = let k = eqb-true (length (x ∷ xs)) 0 e in absurd (omega (arith, k))

pub gives_some : (m : Tables) (draft : Draft) (fid : Fid) (giving leaving : List Token) (new : Tables) (after : Draft) →
    (length giving == 0) ≡ false → Gives m draft fid giving leaving None new after →
    GivesWhere m draft fid giving leaving new after
gives_some m draft fid [] leaving new after e h = absurd (cc)
gives_some m draft fid (token ∷ giving) leaving new after e h = h

pub leaves_some : (m : Tables) (draft : Draft) (fid : Fid) (tokens : List Token) (new : Tables) (after : Draft) →
    (length tokens == 0) ≡ false → LeavesGiven m draft fid tokens None new after →
    LeavesWhere m draft fid tokens new after
leaves_some m draft fid [] new after e h = absurd (cc)
leaves_some m draft fid (token ∷ tokens) new after e h = h

-- what a step has made
pub making_is : (m : Tables) (give : Give) (draft due : Draft) (made : List Give) →
    due ≡ noting_due m give.fid.fileset draft → made ≡ due.made ++ give ∷ [] →
    record due { made = made } ≡ making m give draft
making_is m give draft due made e g =
    ap (λ ds. record due { made = ds })
    (g ∙ ap (λ (d : Draft). d.made ++ give ∷ []) e
    ∙ ap (λ ds. ds ++ give ∷ []) (same (is_none (outstanding m.gives give.fid.fileset))))
    ∙ ap (λ (d : Draft). record d { made = draft.made ++ give ∷ [] }) e
  where
    same : (b : Bool) → (cond b (record draft { due = with_once draft.due give.fid.fileset }) draft).made ≡ draft.made
    same true = refl
    same false = refl

module _ (m t : Tables) (fid : Fid) (giving leaving : List Token) where
  -- the tables but for what is dirty
  pub noted : (new : Tables) (number : ℕ) (length : Option ℕ) → t ≡ record m { dirty = t.dirty } →
      new ≡ noting t fid number length giving →
      new ≡ record (noting m fid number length giving) { dirty = new.dirty }
  noted new number length others after =
      after ∙ ap (λ (x : Tables). noting x fid number length giving) others
      ∙ ap (λ d. record (noting m fid number length giving) { dirty = d }) (sym (ap (λ (x : Tables). x.dirty) after))

  pub cleaned : (new : Tables) (number : ℕ) (length : Option ℕ) → CleansSo m fid giving leaving t →
      new ≡ noting t fid number length giving → CleansSo m fid giving leaving new
  cleaned new number length h after = record {
    bytes = λ other at. ap (λ (x : Tables). is_dirty x.dirty other at) after ∙ h.bytes other at;
    lengths = λ other. ap (λ (x : Tables). length_of x.dirty other) after ∙ h.lengths other;
  }

  module _ (draft : Draft) (give : Give) (ends : Option Ends) (so : GivesSo m fid giving leaving give)
      (is : t ≡ record (noting m fid give.number give.length giving) { dirty = t.dirty }) where
    abbrev ended : Give
    ended = record give { ends = ends }

    tables_is : (new : Tables) → new ≡ with_give t ended → new ≡ given_tables m ended giving new
    tables_is new after =
        after ∙ ap (λ x. with_give x ended) is
        ∙ ap (λ f. with_give (record (noting m f give.number give.length giving) { dirty = t.dirty }) ended)
        (sym so.file)
        ∙ ap (λ d. record (with_give (noting m give.fid give.number give.length giving) ended) { dirty = d })
        (sym (ap (λ (x : Tables). x.dirty) after))

    pub number_is : ended.number ≡ last_of t.gives.counters ended.fid.fileset + 1
    number_is =
        so.number ∙ ap (λ (x : Tables). last_of x.gives.counters fid.fileset + 1) (sym is)
        ∙ ap (λ (f : Fid). last_of t.gives.counters f.fileset + 1) (sym so.file)

    pub gives_is : (new : Tables) (after : Draft) → CleansSo m fid giving leaving t → new ≡ with_give t ended →
        after ≡ making t ended draft → Gives m draft fid giving leaving ends new after
    gives_is new after cleans tables made = record {
      give = give;
      so = so;
      cleans = record {
        bytes = λ other at. ap (λ (x : Tables). is_dirty x.dirty other at) tables ∙ cleans.bytes other at;
        lengths = λ other. ap (λ (x : Tables). length_of x.dirty other) tables ∙ cleans.lengths other;
      };
      tables = tables_is new tables;
      draft_is = made ∙ ap (λ x. making x ended draft) is;
    }

-- a fileset whose give-back is to be sent already
pub noted_once : (m : Tables) (fileset : FilesetId) (draft : Draft) →
    list_any (λ other. other.0 == fileset.0) draft.due ≡ true → draft ≡ noting_due m fileset draft
noted_once m fileset draft e = either (is_none (outstanding m.gives fileset))
  where
    either : (b : Bool) → draft ≡ cond b (record draft { due = with_once draft.due fileset }) draft
    either true = sym (ap (λ t. record draft { due = cond t draft.due (draft.due ++ fileset ∷ []) }) e)
    either false = refl
