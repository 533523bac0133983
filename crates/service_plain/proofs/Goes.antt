-- What entries that come next lead to.
use Rattle.std.proofs.Common.{◌≡◌, ℕ, zero, suc, ◌+◌, eq-eqb, Option, None, Bool, true, false, not, List, [], ◌∷◌, ◌++◌, length, refl, sym, ap, subst, append_assoc, ◌∙◌, inl, inr}
use Rattle.std.specs.List.{list_all}
use Rattle.std.proofs.lemmas.List.{append-nil}
use Rattle.base_types.specs.declared.ids.HostId.{HostId}
use Rattle.tree_calls.specs.declared.entry.Entry.{Entry}
use Rattle.tree_calls.specs.declared.entry.Entry.TheVariants.{Call as Called, Stored, Down, Left}
use Rattle.tree_answers.specs.declared.tree.Tree.{Tree}
use Rattle.tree_answers.specs.Histories.{after_entry, IsHistory, after_history}
use Rattle.tree_answers.specs.WellFormed.{IsWellFormed}
use Rattle.tree_answers.specs.Stores.{stored_tree}
use Rattle.tree_answers.specs.Losses.{down_tree}
use Rattle.tree_answers.proofs.Followed.{same_fid_itself}
use Rattle.base_types.specs.declared.ids.Fid.{Fid}
use Rattle.base_types.specs.declared.ids.ServerId.{ServerId}
use Rattle.base_types.specs.declared.span.Span.{Span}
use Rattle.tree_saving.specs.Saving.{is_store_of, downs_from, DownsAll}
use Rattle.tree_saving.proofs.Apart.{saved_is_at_rest}
use Rattle.script_lines.specs.declared.script.Script.{Script}
use Rattle.service_plain.specs.Played.{has_moved, lefts_stand, rests, written_by, stores_stand, rooms_free}
use Rattle.service_plain.specs.Underway.{Leads, GoesOn, IsSteady, GoesDown}
use Rattle.service_plain.specs.declared.past.Past.{Past}
use Rattle.service_plain.proofs.Histories.{all_so, fst_true, snd_true, both_true}
use Rattle.service_plain.proofs.Rests.{rest_saved, rest_entry}
use Rattle.service_plain.proofs.Written.{StoresOnce}

pub legal_append : (tree : Tree) (a b : List Entry) → IsHistory tree a → IsHistory (after_history tree a) b → IsHistory tree (a ++ b)
legal_append tree [] b h k = k
legal_append tree (entry ∷ a) b (h, rest) k = (h, legal_append (after_entry tree entry) a b rest k)

pub after_append : (tree : Tree) (a b : List Entry) → after_history tree (a ++ b) ≡ after_history (after_history tree a) b
after_append tree [] b = refl
after_append tree (entry ∷ a) b = after_append (after_entry tree entry) a b

-- one lot of entries after another
pub leads_append : (a b c : Tree) (xs ys : List Entry) → Leads a xs b → Leads b ys c → Leads a (xs ++ ys) c
leads_append a b c xs ys h k = record {
  legal = legal_append a xs ys h.legal (subst (λ t. IsHistory t ys) h.tree k.legal);
  tree = k.tree ∙ (ap (λ t. after_history t ys) h.tree ∙ sym (after_append a xs ys));
  formed = k.formed;
  rest = k.rest;
  roster = k.roster ∙ h.roster;
}

pub lefts_append : (due : Bool) (xs ys : List Entry) → lefts_stand due xs ≡ true → lefts_stand false ys ≡ true → lefts_stand due (xs ++ ys) ≡ true
lefts_append true [] ys h k = cc
lefts_append false [] ys h k = k
lefts_append due (Called caller n call reply ∷ xs) ys h k = both_true _ _ (fst_true _ _ h) (lefts_append (has_moved call reply) xs ys (snd_true _ _ h) k)
lefts_append due (Stored host fid spans len ∷ xs) ys h k = both_true _ _ (fst_true _ _ h) (lefts_append false xs ys (snd_true _ _ h) k)
lefts_append due (Down host server ∷ xs) ys h k = both_true _ _ (fst_true _ _ h) (lefts_append false xs ys (snd_true _ _ h) k)
lefts_append due (Left server id ∷ xs) ys h k = both_true _ _ (fst_true _ _ h) (lefts_append false xs ys (snd_true _ _ h) k)

-- whether an entry is neither a call nor says that a fileset has arrived
abbrev pub is_quiet : Entry → Bool
is_quiet (Stored host fid spans len) = true
is_quiet (Down host server) = true
is_quiet _ = false

pub quiet_lefts : (entries : List Entry) → list_all is_quiet entries ≡ true → lefts_stand false entries ≡ true
quiet_lefts [] h = refl
quiet_lefts (Called caller n call reply ∷ entries) h = cc
quiet_lefts (Stored host fid spans len ∷ entries) h = quiet_lefts entries h
quiet_lefts (Down host server ∷ entries) h = quiet_lefts entries h
quiet_lefts (Left server id ∷ entries) h = cc

-- such entries change no records of filesets that left
stored_away : (tree : Tree) (host : HostId) (fid : Fid) (spans : List Span) (len : Option ℕ) → (stored_tree tree host fid spans len).away ≡ tree.away
unfolding stored_tree
stored_away tree host fid spans len = refl

down_away : (tree : Tree) (host : HostId) (server : ServerId) → (down_tree tree host server).away ≡ tree.away
unfolding down_tree
down_away tree host server = refl

pub quiet_away : (tree : Tree) (entries : List Entry) → list_all is_quiet entries ≡ true → (after_history tree entries).away ≡ tree.away
quiet_away tree [] h = refl
quiet_away tree (Called caller n call reply ∷ entries) h = cc
quiet_away tree (Stored host fid spans len ∷ entries) h = quiet_away (stored_tree tree host fid spans len) entries h ∙ stored_away tree host fid spans len
quiet_away tree (Down host server ∷ entries) h = quiet_away (down_tree tree host server) entries h ∙ down_away tree host server
quiet_away tree (Left server id ∷ entries) h = cc

-- whatever was written, what may stand where nothing was may stand there
stand_any : (written : Option (HostId × Fid)) (tree : Tree) (entries : List Entry) → stores_stand None tree entries ≡ true → stores_stand written tree entries ≡ true
stand_any written tree [] h = h
stand_any written tree (Called caller n call reply ∷ entries) h = h
stand_any written tree (Stored host fid spans len ∷ entries) h = cc
stand_any written tree (Down host server ∷ entries) h = h
stand_any written tree (Left server id ∷ entries) h = h

pub stand_append : (written : Option (HostId × Fid)) (tree : Tree) (xs ys : List Entry) → stores_stand written tree xs ≡ true → stores_stand None (after_history tree xs) ys ≡ true → stores_stand written tree (xs ++ ys) ≡ true
stand_append written tree [] ys h k = stand_any written tree ys k
stand_append written tree (Called caller n call reply ∷ xs) ys h k =
    both_true _ _ (fst_true _ _ h) (stand_append (written_by tree (Called caller n call reply)) (after_entry tree (Called caller n call reply)) xs ys (snd_true _ _ h) k)
stand_append written tree (Stored host fid spans len ∷ xs) ys h k = both_true _ _ (fst_true _ _ h) (stand_append None (stored_tree tree host fid spans len) xs ys (snd_true _ _ h) k)
stand_append written tree (Down host server ∷ xs) ys h k = both_true _ _ (fst_true _ _ h) (stand_append None (after_entry tree (Down host server)) xs ys (snd_true _ _ h) k)
stand_append written tree (Left server id ∷ xs) ys h k = both_true _ _ (fst_true _ _ h) (stand_append None (after_entry tree (Left server id)) xs ys (snd_true _ _ h) k)

-- what a host stores of the file that it wrote may stand behind the write
pub stand_once : (host : HostId) (written : Option (HostId × Fid)) (tree : Tree) (entries : List Entry) → StoresOnce host written entries → (rests tree ≡ true → entries ≡ []) → rests (after_history tree entries) ≡ true → stores_stand written tree entries ≡ true
stand_once host written tree entries (inl none) q h = subst (λ list. rests (after_history tree list) ≡ true → stores_stand written tree list ≡ true) (sym none) (λ r. r) h
stand_once host written tree entries (inr file) q h = subst (λ list. rests (after_history tree list) ≡ true → stores_stand written tree list ≡ true) (sym file.one) one h
  where
    some : (v : Bool) → rests tree ≡ v → not v ≡ true
    some true e = let none : entries ≡ [] = q e in let one : entries ≡ Stored host file.fid file.spans file.len ∷ [] = file.one in cc
    some false e = refl

    one : rests (stored_tree tree host file.fid file.spans file.len) ≡ true → stores_stand written tree (Stored host file.fid file.spans file.len ∷ []) ≡ true
    one r = both_true _ _ (both_true _ _ (rw (file.due, eq-eqb host.0 host.0 refl, same_fid_itself file.fid) refl) (some (rests tree) refl)) r

pub goes_append : (a b c : Past) (xs ys : List Entry) → GoesOn a xs b → GoesOn b ys c → GoesOn a (xs ++ ys) c
goes_append a b c xs ys h k = record {
  history = k.history ∙ (ap (λ l. l ++ ys) h.history ∙ append_assoc a.history xs ys);
  leads = leads_append a.tree b.tree c.tree xs ys h.leads k.leads;
  lefts = lefts_append false xs ys h.lefts k.lefts;
  stores = stand_append None a.tree xs ys h.stores (subst (λ t. stores_stand None t ys ≡ true) h.leads.tree k.stores);
  rooms = k.rooms;
}

pub goes_nowhere : (a : Past) → IsWellFormed a.tree → rests a.tree ≡ true → rooms_free a.tree ≡ true → GoesOn a [] a
goes_nowhere a h k r = record {
  history = sym (append-nil a.history);
  leads = record { legal = tt; tree = refl; formed = h; rest = k; roster = refl };
  lefts = refl;
  stores = k;
  rooms = r;
}

-- entries that came next keep the run steady
pub steady_on : (script : Script) (start : Tree) (before after : Past) (entries : List Entry) → IsSteady script start before → GoesOn before entries after → IsSteady script start after
steady_on script start before after entries h k = record {
  legal = rw (k.history) (legal_append start before.history entries h.legal (subst (λ t. IsHistory t entries) h.tree k.leads.legal));
  tree = k.leads.tree ∙ (ap (λ t. after_history t entries) h.tree ∙ (sym (after_append start before.history entries) ∙ ap (after_history start) (sym k.history)));
  formed = k.leads.formed;
  rest = k.leads.rest;
  lefts = rw (k.history) (lefts_append false before.history entries h.lefts k.lefts);
  stores = rw (k.history) (stand_append None start before.history entries h.stores (subst (λ t. stores_stand None t entries ≡ true) h.tree k.stores));
  rooms = k.rooms;
  roster = k.leads.roster ∙ h.roster;
}

pub quiet_stores : (test : HostId → Bool) (entries : List Entry) → list_all (is_store_of test) entries ≡ true → list_all is_quiet entries ≡ true
quiet_stores test = all_so (is_store_of test) is_quiet by
  where
    by : (entry : Entry) → is_store_of test entry ≡ true → is_quiet entry ≡ true
    by (Called caller n call reply) h = cc
    by (Stored host fid spans len) h = refl
    by (Down host server) h = refl
    by (Left server id) h = cc

quiet_downs : (host : HostId) (server n : ℕ) → list_all is_quiet (downs_from host server n) ≡ true
quiet_downs host server zero = refl
quiet_downs host server (suc n) = quiet_downs host (server + 1) n

stand_downs : (host : HostId) (server n : ℕ) (tree : Tree) → rests tree ≡ true → stores_stand None tree (downs_from host server n) ≡ true
stand_downs host server zero tree r = r
stand_downs host server (suc n) tree r =
    let down : Entry = Down host (record { 0 = server }) in
    both_true _ _ r (stand_downs host (server + 1) n (after_entry tree down) (rest_entry tree down r (λ other. refl)))

-- a host is down at every server
pub downs_by_all : (host : HostId) (before : Past) (entries history : List Entry) (tree : Tree) → rests before.tree ≡ true → rooms_free before.tree ≡ true → DownsAll host before.tree entries tree → history ≡ before.history ++ entries →
    GoesDown host before (record { tree = tree; history = history })
downs_by_all host before entries history tree k r h e =
    let downs : List Entry = downs_from host 1 (length before.tree.roster.capacity) in
    let quiet : list_all is_quiet entries ≡ true = rw h.downs (quiet_downs host 1 (length before.tree.roster.capacity)) in
    let same : tree.away ≡ before.tree.away = ap (λ tree. tree.away) h.leads.tree ∙ quiet_away before.tree entries quiet in
    subst (λ list. GoesOn before list (record { tree = tree; history = history })) h.downs (record {
      history = e;
      leads = record { legal = h.leads.legal; tree = h.leads.tree; formed = h.leads.formed; rest = saved_is_at_rest tree (λ other. h.leads.saved other (rest_saved before.tree k other)); roster = h.leads.roster };
      lefts = quiet_lefts entries quiet;
      stores = rw h.downs (stand_downs host 1 (length before.tree.roster.capacity) before.tree k);
      rooms = rw same r;
    })
