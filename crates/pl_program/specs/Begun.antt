-- The talk with which a host begins.
use Rattle.std.specs.Prelude.{ℕ, List, [], ◌++◌, Bool, codes, Option, None, Some}
use Rattle.pl_program_file.specs.Read.{program_of}
use Rattle.pl_program_file.specs.declared.program.Program.{Program}
use Rattle.pl_program.specs.declared.talk.Talk.{Talk}

-- the name of the stack's own resource: `<project>-<stack>`
abbrev pub title : List ℕ → List ℕ → List ℕ
title stack project = project ++ codes "-" ++ stack

-- a program that registers nothing but the stack
abbrev pub no_program : Program
no_program = record { resources = []; outputs = None }

-- a talk in which nothing was said; with a text it fails at once
abbrev pub fresh : Program → List ℕ → Bool → Option (List ℕ) → Talk
fresh program title preview error = record {
  program = program;
  title = title;
  preview = preview;
  stack = None;
  known = [];
  asked = 0;
  unanswered = [];
  error = error;
}

abbrev pub begun_by : Option Program → List ℕ → Bool → Talk
begun_by (Some program) title preview = fresh program title preview None
begun_by None title preview = fresh no_program title preview (Some (codes "bad program"))

-- the talk over the bytes of a program file; one of another form fails
abbrev pub begun : List ℕ → List ℕ → List ℕ → Bool → Talk
begun bytes stack project preview = begun_by (program_of bytes) (title stack project) preview
