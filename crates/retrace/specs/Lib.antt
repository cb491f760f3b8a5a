pub mod RetracePromise
