mod LentWriters
mod ScriptSessions
