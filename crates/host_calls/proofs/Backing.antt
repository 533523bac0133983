-- What a call along a path rests on.
use Rattle.std.proofs.Common.{◌≡◌, ◌+◌, ◌∙◌, Bool, Err, IfOk, List, None, Ok, Result, Some, ap, length}
use Rattle.std.proofs.Common.{refl}
use Rattle.std.proofs.Common.{subst, sym, ℕ, ◌≤◌}
use Rattle.base_types.specs.declared.ids.Fid.{Fid}
use Rattle.base_types.specs.declared.ids.OpenKind.{OpenKind}
use Rattle.base_types.specs.declared.user.User.{User}
use Rattle.host_cache.specs.Seen.{Kept}
use Rattle.host_calls.specs.Looking.{CanReadOn, CoversUse, CoversWrite, IsBacked, IsFresh, IsTold, path_look}
use Rattle.host_calls.specs.Looking.{LeadsNowhere, LeadsOn, taken_label}
use Rattle.host_calls.specs.declared.looking.Verdict.{Verdict}
use Rattle.host_calls.specs.declared.looking.Verdict.TheVariants.{Asks, Does, Frees, Gives, Lists, Reads, Shows, Syncs}
use Rattle.host_calls.specs.declared.looking.Verdict.TheVariants.{Tells, Uses, Writes}
use Rattle.host_labels.specs.Labels.{use_of}
use Rattle.host_tables.specs.declared.tables.Tables.{Tables}
use Rattle.host_walk.specs.declared.sight.Stop.{Stop}
use Rattle.need_host.specs.Calls.{change_look}
use Rattle.tree_calls.specs.declared.call.Call.{Call}
use Rattle.tree_calls.specs.declared.call.Call.TheVariants.{GetAcl, Lock}
use Rattle.tree_calls.specs.declared.call.Call.TheVariants.{List as ListNames, OpenFile, Read}
use Rattle.tree_calls.specs.declared.call.Call.TheVariants.{Stat, Sync, Write}
use Rattle.tree_calls.specs.declared.place.Place.{Place}
use Rattle.tree_calls.specs.declared.place.Which.{Which}

module _ (m : Tables) (call : Call) where
  told_backed : (verdict : Verdict) → CanReadOn m.cache verdict → IsTold verdict → IsBacked m call (Ok verdict)
  told_backed (Reads fid span) r t = r
  told_backed Does r t = tt
  told_backed (Lists fid) r t = tt
  told_backed (Tells fid) r t = tt
  told_backed (Shows fid which) r t = tt
  told_backed (Syncs fid) r t = tt
  told_backed (Writes fid from to) r t = elim t [ ]
  told_backed (Uses fid kind) r t = elim t [ ]
  told_backed Frees r t = elim t [ ]
  told_backed Gives r t = elim t [ ]
  told_backed (Asks question) r t = elim t [ ]

  abbrev Backs : Result Verdict Stop → Type 0
  Backs result = IfOk result (λ verdict. IsFresh m call → IsBacked m call (Ok verdict))

  pub told_ok : (result : Result Verdict Stop) → IfOk result (CanReadOn m.cache) → IfOk result (λ v. IsTold v) →
      Backs result
  told_ok (Ok verdict) r t = λ fresh. told_backed verdict r t
  told_ok (Err stop) r t = tt

  write_backed : (place : Place) (from : ℕ) (bytes : List ℕ) → call ≡ Write place from bytes → (verdict : Verdict) →
      CoversWrite m.cache from bytes verdict → IsBacked m call (Ok verdict)
  write_backed place from bytes is Does c = tt
  write_backed place from bytes is (Writes fid at to) (low, high, c) = record {
    place = place;
    bytes = bytes;
    call_is = is ∙ ap (λ f. Write place f bytes) (sym low);
    ends = high ∙ ap (λ f. f + length bytes) (sym low);
    covered = λ k a b. c k (subst (λ f. f ≤ k) low a) b;
  }
  write_backed place from bytes is (Reads fid span) c = elim c [ ]
  write_backed place from bytes is (Lists fid) c = elim c [ ]
  write_backed place from bytes is (Tells fid) c = elim c [ ]
  write_backed place from bytes is (Shows fid which) c = elim c [ ]
  write_backed place from bytes is (Syncs fid) c = elim c [ ]
  write_backed place from bytes is (Uses fid kind) c = elim c [ ]
  write_backed place from bytes is Frees c = elim c [ ]
  write_backed place from bytes is Gives c = elim c [ ]
  write_backed place from bytes is (Asks question) c = elim c [ ]

  pub write_ok : (place : Place) (from : ℕ) (bytes : List ℕ) → call ≡ Write place from bytes →
      (result : Result Verdict Stop) → IfOk result (CoversWrite m.cache from bytes) → Backs result
  write_ok place from bytes is (Ok verdict) c = λ fresh. write_backed place from bytes is verdict c
  write_ok place from bytes is (Err stop) c = tt

  use_backed : (lock : Bool) (label : List ℕ) → taken_label call ≡ Some (lock, label) → IsFresh m call →
      (verdict : Verdict) → CoversUse m.cache lock verdict → IsBacked m call (Ok verdict)
  use_backed lock label taken fresh (Uses fid kind) (use_is, is, c) = record {
    label = label;
    kind_is = use_is;
    taken = taken ∙ ap (λ b. Some (b, label)) (sym is);
    unused = subst (λ b. use_of m.uses b label ≡ None) (sym is) (fresh lock label taken);
    covered = c;
  }
  use_backed lock label taken fresh Does c = elim c [ ]
  use_backed lock label taken fresh (Writes fid from to) c = elim c [ ]
  use_backed lock label taken fresh (Reads fid span) c = elim c [ ]
  use_backed lock label taken fresh (Lists fid) c = elim c [ ]
  use_backed lock label taken fresh (Tells fid) c = elim c [ ]
  use_backed lock label taken fresh (Shows fid which) c = elim c [ ]
  use_backed lock label taken fresh (Syncs fid) c = elim c [ ]
  use_backed lock label taken fresh Frees c = elim c [ ]
  use_backed lock label taken fresh Gives c = elim c [ ]
  use_backed lock label taken fresh (Asks question) c = elim c [ ]

  pub use_ok : (lock : Bool) (label : List ℕ) → taken_label call ≡ Some (lock, label) →
      (result : Result Verdict Stop) → IfOk result (CoversUse m.cache lock) → Backs result
  use_ok lock label taken (Ok verdict) c = λ fresh. use_backed lock label taken fresh verdict c
  use_ok lock label taken (Err stop) c = tt

-- a call that is none of these is asked about
pub other_look : (m : Tables) (root : Fid) (path : List (List ℕ)) (call : Call) →
    ((p : Place) (f l : ℕ) → call ≡ Read p f l → ⊥) → ((p : Place) (f : ℕ) (b : List ℕ) → call ≡ Write p f b → ⊥) →
    ((p : Place) → call ≡ ListNames p → ⊥) → ((p : Place) → call ≡ Stat p → ⊥) →
    ((p : Place) (w : Which) → call ≡ GetAcl p w → ⊥) → ((p : Place) → call ≡ Sync p → ⊥) →
    ((n : List ℕ) (p : Place) (w : Bool) (f l : ℕ) → call ≡ Lock n p w f l → ⊥) →
    ((n : List ℕ) (p : Place) (k : OpenKind) → call ≡ OpenFile n p k → ⊥) →
    path_look m call root path ≡ change_look root
other_look m root path (Read p f l) r w n s g y k o = absurd (r p f l refl)
other_look m root path (Write p f b) r w n s g y k o = absurd (w p f b refl)
other_look m root path (ListNames p) r w n s g y k o = absurd (n p refl)
other_look m root path (Stat p) r w n s g y k o = absurd (s p refl)
other_look m root path (GetAcl p which) r w n s g y k o = absurd (g p which refl)
other_look m root path (Sync p) r w n s g y k o = absurd (y p refl)
other_look m root path (Lock label p writing f l) r w n s g y k o = absurd (k label p writing f l refl)
other_look m root path (OpenFile label p kind) r w n s g y k o = absurd (o label p kind refl)
other_look m root path call r w n s g y k o = refl

-- what reads, lists, syncs, writes, uses and frees nothing leads wherever it does
module _ (kept : Kept) (user : User) (call : Call) (root : Fid) (path : List (List ℕ)) where
  nowhere_leads : (verdict : Verdict) → LeadsNowhere verdict → LeadsOn kept user call root path verdict
  nowhere_leads (Reads fid span) n = elim n [ ]
  nowhere_leads (Lists fid) n = elim n [ ]
  nowhere_leads (Syncs fid) n = elim n [ ]
  nowhere_leads (Writes fid from to) n = elim n [ ]
  nowhere_leads (Uses fid kind) n = elim n [ ]
  nowhere_leads Does n = tt
  nowhere_leads (Tells fid) n = tt
  nowhere_leads (Shows fid which) n = tt
  nowhere_leads Frees n = elim n [ ]
  nowhere_leads Gives n = tt
  nowhere_leads (Asks question) n = tt

  pub leads_ok : (result : Result Verdict Stop) → IfOk result LeadsNowhere →
      IfOk result (λ verdict. LeadsOn kept user call root path verdict)
  leads_ok (Ok verdict) n = nowhere_leads verdict n
  leads_ok (Err stop) n = tt

  write_leads_so : (place : Place) (from : ℕ) (bytes : List ℕ) → call ≡ Write place from bytes → (verdict : Verdict) →
      CoversWrite kept from bytes verdict → LeadsOn kept user call root path verdict
  write_leads_so place from bytes is (Writes fid at to) c =
      subst (λ (k : Call). LeadsOn kept user k root path (Writes fid at to)) (sym is)
      (sym c.0, c.1)
  write_leads_so place from bytes is Does c = tt
  write_leads_so place from bytes is (Reads fid span) c = elim c [ ]
  write_leads_so place from bytes is (Lists fid) c = elim c [ ]
  write_leads_so place from bytes is (Syncs fid) c = elim c [ ]
  write_leads_so place from bytes is (Tells fid) c = elim c [ ]
  write_leads_so place from bytes is (Shows fid which) c = elim c [ ]
  write_leads_so place from bytes is (Uses fid kind) c = elim c [ ]
  write_leads_so place from bytes is Frees c = elim c [ ]
  write_leads_so place from bytes is Gives c = elim c [ ]
  write_leads_so place from bytes is (Asks question) c = elim c [ ]

  pub write_leads : (place : Place) (from : ℕ) (bytes : List ℕ) → call ≡ Write place from bytes →
      (result : Result Verdict Stop) → IfOk result (CoversWrite kept from bytes) →
      IfOk result (λ verdict. LeadsOn kept user call root path verdict)
  write_leads place from bytes is (Ok verdict) c = write_leads_so place from bytes is verdict c
  write_leads place from bytes is (Err stop) c = tt
