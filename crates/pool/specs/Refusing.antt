-- A refusal that has no line and no column. Definitions only.
use Rattle.refusal.specs.declared.Refusal.{Refusal}
use Rattle.pool.specs.declared.reply.Refused.{Refused}

abbrev pub plain : Refusal → Refused
plain q = record { refusal = q; line = 0; column = 0 }
