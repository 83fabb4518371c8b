-- How the course of a run is kept.
use Rattle.pl_core.specs.declared.held.Core.TheInside.{Inside}
use Rattle.pl_course.specs.Course.{Course}
use Rattle.pl_course.specs.Together.{GoTogether}

abbrev pub course_by : Inside → Course
course_by inside = record { run = inside.columns.claims.run; history = inside.history.events }

abbrev pub IsCore : Inside → Type 0
IsCore inside = GoTogether inside.columns inside.history
