-- A fileset and its summary as they are printed, by example.
use Rattle.std.specs.Prelude.{List, None, Some, [], codes, false, true, ℕ, ◌++◌, ◌∷◌, ◌≡◌}
use Rattle.base_types.specs.declared.access.AccessEntry.{AccessEntry}
use Rattle.base_types.specs.declared.access.Who.TheVariants.{Group, GroupObj, MaskObj, OtherObj, User, UserObj}
use Rattle.tree_filesets.specs.declared.fileset.Fileset.{Fileset}
use Rattle.tree_objects.specs.declared.content.Content.TheVariants.{Dir, File}
use Rattle.tree_objects.specs.declared.content.Object.{Object}
use Rattle.script_output.specs.Printed.{text_of_report}
use Rattle.script_output.specs.Summary.{json_of_report}

-- the list of a file: each kind of entry, and each right
abbrev pub of_file : List AccessEntry
of_file =
    record { who = UserObj; rights = 63 } ∷ record { who = User (codes "bob"); rights = 9 } ∷
    record { who = GroupObj; rights = 5 } ∷ record { who = Group (codes "dev"); rights = 2 } ∷
    record { who = OtherObj; rights = 0 } ∷ record { who = MaskObj; rights = 48 } ∷ []

-- a list that differs by its first rights
abbrev pub of_dir : ℕ → List AccessEntry
of_dir rights =
    record { who = UserObj; rights = rights } ∷ record { who = GroupObj; rights = 1 } ∷
    record { who = OtherObj; rights = 0 } ∷ []

-- a file of five bytes, of which one isn't saved yet
abbrev pub file : Object
file = record {
  owner = codes "bob";
  group = codes "dev";
  content = File of_file (0 ∷ 97 ∷ 98 ∷ 0 ∷ 0 ∷ [])
      (record { at = 3; value = 10; writer = record { 0 = 1 } } ∷ []) None;
}

abbrev pub root : Object
root = record {
  owner = codes "ann";
  group = codes "dev";
  content = Dir (record { name = codes "a b"; anode = 3; unique = 2 } ∷ []) (of_dir 1 ∷ of_dir 2 ∷ of_dir 4 ∷ []);
}

-- a fileset with a free anode between its root and the file
abbrev pub home : Fileset
home = record {
  server = record { 0 = 2 };
  id = record { 0 = 2 };
  name = codes "home";
  read_only = false;
  objects = 7;
  moves = 0;
  anodes = record { unique = 1; object = Some root } ∷ record { unique = 4; object = None }
      ∷ record { unique = 2; object = Some file } ∷ [];
}

-- an empty root, that of a clone at an earlier server
abbrev pub empty_root : Object
empty_root = record root { content = Dir [] (of_dir 8 ∷ of_dir 8 ∷ of_dir 8 ∷ []) }

abbrev pub copy : Fileset
copy = record {
  server = record { 0 = 1 };
  id = record { 0 = 5 };
  name = codes "copy";
  read_only = true;
  objects = 2;
  moves = 0;
  anodes = record { unique = 1; object = Some empty_root } ∷ [];
}

-- What is printed of both.
pub record WorkedDump : Type 0 where
  pub text : text_of_report (record { answers = []; losses = [] }) (home ∷ copy ∷ [])
      ≡ codes "fileset s1 copy ro 2\n"
      ++ codes "dir /copy 0 ann dev\n"
      ++ codes " list user_obj:c,group_obj:r,other_obj:-\n"
      ++ codes " files user_obj:c,group_obj:r,other_obj:-\n"
      ++ codes " dirs user_obj:c,group_obj:r,other_obj:-\n"
      ++ codes "fileset s2 home rw 7\n"
      ++ codes "dir /home 1 ann dev\n"
      ++ codes " list user_obj:r,group_obj:r,other_obj:-\n"
      ++ codes " files user_obj:w,group_obj:r,other_obj:-\n"
      ++ codes " dirs user_obj:x,group_obj:r,other_obj:-\n"
      ++ codes "file \"/home/a b\" 5 bob dev\n"
      ++ codes " list user_obj:rwxcid,user:bob:rc,group_obj:rx,group:dev:w,other_obj:-,mask_obj:id\n"
      ++ codes " 1 \"ab\\x0a\"\n"
      ++ codes "end\n"
  pub summary : json_of_report (record { answers = []; losses = [] }) (home ∷ copy ∷ [])
      ≡ codes "{\"calls\":0,\"filesets\":[{"
      ++ codes "\"name\":\"copy\",\"objects\":1,\"server\":1},{\""
      ++ codes "name\":\"home\",\"objects\":2,\"server\":2}]"
      ++ codes ",\"lost\":0,\"refused\":0}\n"
